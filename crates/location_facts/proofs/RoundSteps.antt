-- The next list of facts and its proofs, one fact and one rule after the other.
use Rattle.std.proofs.Common.{◌≡◌, ◌⊎◌, inl, inr, ℕ, zero, suc, ◌+◌, ◌<◌, ◌≤◌, refl, sym, ap, ◌∙◌, arith, subst, List}
use Rattle.std.proofs.Common.{[], ◌∷◌}
use Rattle.std.proofs.Common.{◌++◌, length, length-append, get_or, Option, Some, None, true}
use Rattle.std.specs.Prelude.{slice_get}
use Rattle.std.specs.List.{All, Contains, range_with_len}
use Rattle.std.proofs.lemmas.Bool.{cases_lt, eqb-true}
use Rattle.std.proofs.lemmas.List.Elements.{All-append, All-cons, All-nil, filter_passes}
use Rattle.std.proofs.lemmas.Option.{slice_get_read, slice_get_within}
use Rattle.poly_terms.specs.model.Programs.{Program, Rule, rule_at}
use Rattle.poly_terms.specs.model.Paths.{target_of, same_symbol}
use Rattle.poly_terms.proofs.model.Cases.{some_same, slice_get-there}
use Rattle.poly_terms.proofs.model.StepLaws.{target_of-rule}
use Rattle.rule_questions.specs.ProgramQuestions.{forms_at}
use Rattle.location_facts.specs.declared.fact.LocFact.{LocFact}
use Rattle.location_facts.specs.declared.fact.FactProof.{FactProof}
use Rattle.location_facts.specs.Candidates.{IsCandidate, order_number}
use Rattle.location_facts.specs.Certificates.{IsWithinLimit}
use Rattle.location_facts.specs.Faults.{IsFactAt, AreRight, rules_into}
use Rattle.location_facts.specs.Faults.{ShowsFact}
use Rattle.location_facts.specs.Faults.{ProofsShow, AreProved}
use Rattle.location_facts.specs.Implied.{Ascend, AreInOrder, HasProofs, AreProofsUnder, AreImplied}
use Rattle.location_facts.specs.Kept.{IsImplied, IsImpliedByAll, HasThose}
use Rattle.location_facts.proofs.CandidateList.{Between}
use Rattle.location_facts.proofs.Counting.{least_from}
use Rattle.location_facts.proofs.ProvedFacts.{into}
use Rattle.location_facts.proofs.ShownRules.{into-rule}

-- the last element of a list after a push, and those before it
pub slice-last : {A : Type 0} (xs : List A) (x : A) → slice_get (xs ++ x ∷ []) (length xs) ≡ Some x
slice-last [] x = refl
slice-last (y ∷ xs) x = slice-last xs x

pub slice-before : {A : Type 0} (xs ys : List A) (i : ℕ) → i < length xs → slice_get (xs ++ ys) i ≡ slice_get xs i
slice-before [] ys i l = absurd (omega (arith, l))
slice-before (x ∷ xs) ys zero l = refl
slice-before (x ∷ xs) ys (suc i) l = slice-before xs ys i (omega (arith, l))

-- facts with ascending numbers are in order
pub between-ascend : (p : Program) (k n : ℕ) (facts : List LocFact) → Between p k n facts → Ascend p k facts
between-ascend p k n [] h = tt
between-ascend p k n (f ∷ facts) (c, l, h) = (c, l, between-ascend p (suc (order_number f)) n facts h)

ascend-lower : (p : Program) (j k : ℕ) (facts : List LocFact) → j ≤ k → Ascend p k facts → Ascend p j facts
ascend-lower p j k [] l h = tt
ascend-lower p j k (f ∷ facts) l (c, m, h) = (c, omega (arith, l, m), h)

-- the facts of an ascending list that satisfy a condition ascend
pub those-ascend : (Keeps : LocFact → Type 0) (p : Program) (k : ℕ) (facts those : List LocFact)
    → HasThose Keeps facts those → Ascend p k facts → Ascend p k those
those-ascend Keeps p k [] those h b = subst (Ascend p k) (sym h) tt
those-ascend Keeps p k (g ∷ facts) those (inl (kg, (rest, e, h))) (c, l, b) =
    subst (Ascend p k) (sym e) (c, l, those-ascend Keeps p (suc (order_number g)) facts rest h b)
those-ascend Keeps p k (g ∷ facts) those (inr (drops, h)) (c, l, b) =
    ascend-lower p k (suc (order_number g)) those (omega (arith, l))
    (those-ascend Keeps p (suc (order_number g)) facts those h b)

-- each fact of an ascending list is a candidate
pub ascend-tried : (p : Program) (k : ℕ) (facts : List LocFact) → Ascend p k facts → All (IsCandidate p) facts
ascend-tried p k [] h = All-nil (IsCandidate p)
ascend-tried p k (f ∷ facts) (c, l, h) = All-cons (IsCandidate p) f facts c
    (ascend-tried p (suc (order_number f)) facts h)

-- each fact of an ascending list has a greater number than the one before it
ascend-at : (p : Program) (k : ℕ) (facts : List LocFact) (i : ℕ) (f : LocFact) → Ascend p k facts
    → slice_get facts i ≡ Some f → IsCandidate p f × (least_from k facts i ≤ order_number f)
ascend-at p k [] i f h e = absurd (let same : ⊥ = cc in same)
ascend-at p k (g ∷ facts) zero f (c, l, h) e =
    subst (λ (x : LocFact). IsCandidate p x × (k ≤ order_number x)) (some_same g f e) (c, l)
ascend-at p k (g ∷ facts) (suc zero) f (c, l, h) e = ascend-at p (suc (order_number g)) facts zero f h e
ascend-at p k (g ∷ facts) (suc (suc i)) f (c, l, h) e = ascend-at p (suc (order_number g)) facts (suc i) f h e

-- the last list with its proofs has no fault
pub proved-end : (p : Program) (kept : List LocFact) (proofs : List (List FactProof)) → AreInOrder p kept
    → AreProofsUnder p kept kept proofs → AreProved p kept proofs
proved-end p kept proofs ordered h = record {
  one_each = h.one_each;
  right = right;
  shown = λ i f ps l stands. (h.each i f ps stands).shown;
}
  where
    right : AreRight p kept proofs (length kept)
    right zero f ps l stands =
        let a = ascend-at p 0 kept zero f ordered stands.fact in
        let b = h.each zero f ps stands in
        record { candidate = a.0; behind = a.1; one_each = b.one_each; numbers = b.numbers }
    right (suc i) f ps l stands =
        let a = ascend-at p 0 kept (suc i) f ordered stands.fact in
        let b = h.each (suc i) f ps stands in
        record { candidate = a.0; behind = a.1; one_each = b.one_each; numbers = b.numbers }

-- after one more fact with its proofs
pub proofs-pushed : (p : Program) (kept found : List LocFact) (proofs : List (List FactProof)) (f : LocFact)
    (ps : List FactProof) → AreProofsUnder p kept found proofs → HasProofs p kept f ps
    → AreProofsUnder p kept (found ++ f ∷ []) (proofs ++ ps ∷ [])
proofs-pushed p kept found proofs f ps h has = record {
  one_each = (let a = length-append proofs (ps ∷ []) in let b = length-append found (f ∷ []) in let c = h.one_each in
      omega (arith, a, b, c));
  each = each;
}
  where
    each : (i : ℕ) (g : LocFact) (qs : List FactProof) → IsFactAt (found ++ f ∷ []) (proofs ++ ps ∷ []) i g qs
        → HasProofs p kept g qs
    each i g qs stands = go (cases_lt i (length found))
      where
        within : i < length (found ++ f ∷ [])
        within = slice_get_within (found ++ f ∷ []) i g stands.fact

        here : i ≡ length found → HasProofs p kept g qs
        here e =
            let a : f ≡ g = some_same f g (sym (slice-last found f)
            ∙ (ap (slice_get (found ++ f ∷ [])) (sym e) ∙ stands.fact)) in
            let b : ps ≡ qs = some_same ps qs (sym (slice-last proofs ps)
            ∙ (ap (slice_get (proofs ++ ps ∷ [])) (let z : length proofs ≡ i = (let c = h.one_each in
            omega (arith, c, e)) in z) ∙ stands.listed)) in
            subst (λ (x : LocFact). HasProofs p kept x qs) a (subst (HasProofs p kept f) b has)

        go : (i < length found) ⊎ (length found ≤ i) → HasProofs p kept g qs
        go (inl l) = h.each i g qs (record {
          fact = sym (slice-before found (f ∷ []) i l) ∙ stands.fact;
          listed = sym (slice-before proofs (ps ∷ []) i (let c = h.one_each in omega (arith, c, l))) ∙ stands.listed;
        })
        go (inr l) = here (let a = length-append found (f ∷ []) in omega (arith, a, within, l))

-- after one more rule
pub implied-more : (p : Program) (pivots : ℕ) (kept : List LocFact) (f : LocFact) (proofs : List FactProof) (n t : ℕ)
    (proof : FactProof) → AreImplied p pivots kept f proofs n → length proofs ≡ n
    → slice_get (rules_into p f.symbol) n ≡ Some t → IsWithinLimit proof → ShowsFact p kept f t proof
    → IsImplied pivots (forms_at p t) kept f → AreImplied p pivots kept f (proofs ++ proof ∷ []) (n + 1)
implied-more p pivots kept f proofs n t proof h many rule within shows implied = record {
  numbers = All-append IsWithinLimit proofs (proof ∷ []) h.numbers
      (All-cons IsWithinLimit proof [] within (All-nil IsWithinLimit));
  shown = shown;
  implied = λ k u l e. next k u l e (cases_lt k n);
}
  where
    next : (k u : ℕ) → k < n + 1 → slice_get (rules_into p f.symbol) k ≡ Some u → (k < n) ⊎ (n ≤ k)
        → IsImplied pivots (forms_at p u) kept f
    next k u l e (inl m) = h.implied k u m e
    next k u l e (inr m) =
        subst (λ (v : ℕ). IsImplied pivots (forms_at p v) kept f)
        (some_same t u (sym rule ∙ (ap (slice_get (rules_into p f.symbol)) (let z : n ≡ k = omega (arith, l, m) in z)
        ∙ e))) implied

    shown : ProofsShow p kept f (proofs ++ proof ∷ []) (n + 1)
    shown k u other l for = go (cases_lt k n)
      where
        here : k ≡ n → ShowsFact p kept f u other
        here e =
            subst (λ (v : ℕ). ShowsFact p kept f v other)
            (some_same t u (sym rule ∙ (ap (slice_get (rules_into p f.symbol)) (sym e) ∙ for.rule)))
            (subst (ShowsFact p kept f t) (some_same proof other (sym (slice-last proofs proof)
            ∙ (ap (slice_get (proofs ++ proof ∷ [])) (many ∙ sym e) ∙ for.listed))) shows)

        go : (k < n) ⊎ (n ≤ k) → ShowsFact p kept f u other
        go (inl m) = h.shown k u other m (record {
          rule = for.rule;
          listed = sym (slice-before proofs (proof ∷ []) k (omega (arith, many, m))) ∙ for.listed;
        })
        go (inr m) = here (omega (arith, l, m))

-- if all rules into its symbol imply a fact, every rule does
pub implied-all : (p : Program) (pivots : ℕ) (kept : List LocFact) (f : LocFact) (proofs : List FactProof)
    → AreImplied p pivots kept f proofs (length (rules_into p f.symbol)) → IsImpliedByAll p pivots kept f
implied-all p pivots kept f proofs h = record { each = λ t r e same. go t (into p t r f.symbol e same) }
  where
    go : (t : ℕ) → Contains (rules_into p f.symbol) t → IsImplied pivots (forms_at p t) kept f
    go t (k, low, is) = h.implied k t low (slice_get_read (rules_into p f.symbol) _ k t refl low (sym is))

-- if the test of equality succeeds, the symbols are equal
same_symbol-sound : (o : Option ℕ) (a : ℕ) → same_symbol o (Some a) ≡ true → o ≡ Some a
same_symbol-sound None a h = absurd (let none : ⊥ = cc in none)
same_symbol-sound (Some b) a h = ap Some (eqb-true b a h)

-- a number of a rule into a symbol is that of a rule that leads to it
rule-there : (p : Program) (s t : ℕ) → (1 ≤ t) × (t ≤ length p.rules) → same_symbol (target_of p t) (Some s) ≡ true
    → (r : Rule) × (rule_at p t ≡ Some r) × (r.target ≡ s)
rule-there p s zero (l, h) e = absurd (omega (arith, l))
rule-there p s (suc i) (l, h) e =
    let (r, there) = slice_get-there p.rules i (omega (arith, h)) in (
      r,
      there,
      some_same r.target s
          (sym (target_of-rule p (suc i) r there) ∙ same_symbol-sound (target_of p (suc i)) s e),
    )

-- if every rule implies a fact, each rule into its symbol does
pub implied-at : (p : Program) (pivots : ℕ) (kept : List LocFact) (f : LocFact) (k t : ℕ)
    → k < length (rules_into p f.symbol) → t ≡ get_or (rules_into p f.symbol) k t → IsImpliedByAll p pivots kept f
    → IsImplied pivots (forms_at p t) kept f
implied-at p pivots kept f k t l e all =
    let (r, there, same) = rule-there p f.symbol t (into-rule p f.symbol k t (rules_into p f.symbol) refl l e)
    (subst (λ (u : ℕ). same_symbol (target_of p u) (Some f.symbol) ≡ true) (sym e)
    (filter_passes (λ u. same_symbol (target_of p u) (Some f.symbol)) (range_with_len 1 (length p.rules)) k t l)) in
    all.each t r there same

-- if a rule into its symbol doesn't imply a fact, not every rule does
pub missed : (p : Program) (pivots : ℕ) (kept : List LocFact) (f : LocFact) (k t : ℕ)
    → k < length (rules_into p f.symbol)
    → t ≡ get_or (rules_into p f.symbol) k t → ¬ IsImplied pivots (forms_at p t) kept f
    → ¬ IsImpliedByAll p pivots kept f
missed p pivots kept f k t l e h all = h (implied-at p pivots kept f k t l e all)

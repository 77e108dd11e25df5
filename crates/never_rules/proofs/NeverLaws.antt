-- Flags of rules that facts say never occur.
use Rattle.std.proofs.Common.{◌≡◌, ℕ, zero, suc, ◌<◌, ◌≤◌, Bool, true, false}
use Rattle.std.proofs.Common.{List, [], ◌∷◌, ◌++◌, length, get_or, Some, None}
use Rattle.std.proofs.Common.{◌+◌, map, take, refl, sym, ap, ap₂, ◌∙◌, arith, eq-eqb}
use Rattle.std.specs.Prelude.{◌&&◌, ◌||◌, ◌==◌, replicate}
use Rattle.std.proofs.lemmas.Bool.{eqb-true, ne_eqb}
use Rattle.std.proofs.lemmas.List.{length-replicate, get_or-replicate, get_or-set_same, get_or-set_other}
use Rattle.std.proofs.lemmas.List.{take_more, map-append}
use Rattle.std.proofs.lemmas.List.Folds.{list_any-append}
use Rattle.std.specs.Prelude.{set}
use Rattle.signed_bounds.specs.Bounds.{Signed, Constant, PositivePart, SumOf}
use Rattle.signed_bounds.specs.Bounds.{ProductOf, MaximumOf, MinimumOf, Quotient, Root}
use Rattle.signed_bounds.specs.Bounds.{PowerOf}
use Rattle.potential_nodes.specs.potentials.Sums.{Charge}
use Rattle.potential_nodes.specs.Facts.{SignedFact, SumFact, PeakFact, SizeFact, once_charge, one_form, same_polynomial}
use Rattle.potential_nodes.specs.Facts.{same_charges, says_never, is_never}
use Rattle.potential_types.specs.Zeros.{is_zero_bound}
use Rattle.potential_types.specs.declared.facts.SignedFact as code
use Rattle.potential_types.specs.Views.{fact_view}
use Rattle.never_rules.specs.Never.{charged_rule, TellNever}

and-false : (v : Bool) → (v && false) ≡ false
and-false true = refl
and-false false = refl

or-false : (v : Bool) → (v || false) ≡ v
or-false true = refl
or-false false = refl

and-true : (v : Bool) → ((v || false) && true) ≡ v
and-true true = refl
and-true false = refl

-- a fact on a sum says that a rule never occurs where its bound is 0 and its only charge is 1 for each step by the rule
never-zero : (t : ℕ) (goal : List Charge) (b : Signed)
    → says_never t (SumFact goal b) ≡ (is_zero_bound b && same_charges (once_charge t ∷ []) goal)
never-zero t goal (Constant zero) = refl
never-zero t goal (Constant (suc n)) = refl
never-zero t goal (PositivePart p) = refl
never-zero t goal (SumOf parts) = refl
never-zero t goal (ProductOf parts) = refl
never-zero t goal (MaximumOf parts) = refl
never-zero t goal (MinimumOf first parts) = refl
never-zero t goal (Quotient part q) = refl
never-zero t goal (Root part) = refl
never-zero t goal (PowerOf base part) = refl

some-equal : {A : Type 0} {a b : A} → Some a ≡ Some b → a ≡ b
some-equal e = cc

some-none : {A : Type 0} {a : A} → Some a ≡ None → ⊥
some-none e = cc

-- a fact without a charge says so of no rule
never-uncharged : (f : SignedFact) (t : ℕ) → charged_rule f ≡ None → says_never t f ≡ false
never-uncharged (SumFact [] b) t e = never-zero t [] b ∙ and-false (is_zero_bound b)
never-uncharged (SumFact (c ∷ cs) b) t e = absurd (some-none e)
never-uncharged (PeakFact rule form b) t e = refl
never-uncharged (SizeFact rule place b) t e = refl

-- one with a charge says so of no rule but that of its first charge
never-other : (f : SignedFact) (r t : ℕ) → charged_rule f ≡ Some r → (r ≡ t → ⊥) → says_never t f ≡ false
never-other (SumFact [] b) r t e ne = absurd (some-none (sym e))
never-other (SumFact (c ∷ cs) b) r t e ne =
    never-zero t (c ∷ cs) b
    ∙ (ap (λ (v : Bool). is_zero_bound b && ((v && same_polynomial one_form c.form) && same_charges [] cs))
    (ne_eqb t c.rule (λ k. ne (sym (k ∙ some-equal e))))
    ∙ and-false (is_zero_bound b))
never-other (PeakFact rule form b) r t e ne = refl
never-other (SizeFact rule place b) r t e ne = refl

false-true : false ≡ true → ⊥
false-true k = cc

never-charged : (f : SignedFact) (r t : ℕ) → charged_rule f ≡ Some r
    → ((says_never r f || false) && (r == t)) ≡ says_never t f
never-charged f r t e = go (r == t) refl
  where
    go : (v : Bool) → (r == t) ≡ v → ((says_never r f || false) && (r == t)) ≡ says_never t f
    go true k =
        ap (λ (v : Bool). (says_never r f || false) && v) k
        ∙ (and-true (says_never r f) ∙ ap (λ (s : ℕ). says_never s f) (eqb-true r t k))
    go false k =
        ap (λ (v : Bool). (says_never r f || false) && v) k
        ∙ (and-false (says_never r f || false)
        ∙ sym (never-other f r t e (λ h. false-true (sym k ∙ eq-eqb r t h))))

-- the flags of one fact more
pub marked : (facts : List SignedFact) (flags new : List Bool) (f : SignedFact) (r : ℕ) (says : Bool)
    → TellNever facts flags → charged_rule f ≡ Some r → says ≡ is_never (f ∷ []) r → length new ≡ length flags
    → ((t : ℕ) → t < length flags → get_or new t false ≡ (get_or flags t false || (says && (r == t))))
    → TellNever (facts ++ f ∷ []) new
marked facts flags new f r says tell e is same sets = record {
  each = λ t low.
      let here : t < length flags = omega (arith, same, low) in
      sets t here
      ∙ (ap₂ (λ (v w : Bool). v || w) (tell.each t here)
      (ap (λ (s : Bool). s && (r == t)) is ∙ (never-charged f r t e ∙ sym (or-false (says_never t f))))
      ∙ sym (list_any-append (says_never t) facts (f ∷ [])));
}

pub unmarked : (facts : List SignedFact) (flags : List Bool) (f : SignedFact) → TellNever facts flags
    → charged_rule f ≡ None → TellNever (facts ++ f ∷ []) flags
unmarked facts flags f tell e = record {
  each = λ t low.
      tell.each t low
      ∙ sym (list_any-append (says_never t) facts (f ∷ [])
      ∙ (ap (λ (v : Bool). is_never facts t || (v || false)) (never-uncharged f t e) ∙ or-false (is_never facts t)));
}

-- no facts, and no flag set
pub none-marked : (n : ℕ) → TellNever [] (replicate n false)
none-marked n = record {
  each = λ t low. get_or-replicate n t false false (omega (arith, low, length-replicate n false));
}

-- a flag that is set, or not
pub flag-set : (flags : List Bool) (i : ℕ) → i < length flags → (t : ℕ) → t < length flags
    → get_or (set flags i true) t false ≡ (get_or flags t false || (true && (i == t)))
flag-set flags i low t here = go (i == t) refl
  where
    or-true : (v : Bool) → (v || true) ≡ true
    or-true true = refl
    or-true false = refl

    go : (v : Bool) → (i == t) ≡ v → get_or (set flags i true) t false ≡ (get_or flags t false || (true && (i == t)))
    go true k =
        sym (ap (λ (s : ℕ). get_or (set flags i true) s false) (eqb-true i t k))
        ∙ (get_or-set_same flags i true false low
        ∙ (sym (or-true (get_or flags t false)) ∙ sym (ap (λ (v : Bool). get_or flags t false || v) k)))
    go false k =
        get_or-set_other flags i t true false (λ h. false-true (sym k ∙ eq-eqb i t (sym h)))
        ∙ (sym (or-false (get_or flags t false)) ∙ sym (ap (λ (v : Bool). get_or flags t false || v) k))

-- nothing is set where the test says no, or where there is no flag
pub flag-unset : (flags : List Bool) (t : ℕ) (test v : Bool) → test ≡ false
    → get_or flags t false ≡ (get_or flags t false || (test && v))
flag-unset flags t test v e =
    sym (or-false (get_or flags t false)) ∙ sym (ap (λ (s : Bool). get_or flags t false || (s && v)) e)

pub flag-past : (flags : List Bool) (i t : ℕ) (test : Bool) → length flags ≤ i → t < length flags
    → get_or flags t false ≡ (get_or flags t false || (test && (i == t)))
flag-past flags i t test past low =
    sym (or-false (get_or flags t false))
    ∙ sym (ap (λ (s : Bool). get_or flags t false || s)
    (ap (λ (s : Bool). test && s) (ne_eqb i t (λ h. absurd (omega (arith, h, past, low)))) ∙ and-false test))

-- the facts up to a place, and the one there
pub facts-more : (facts : List code.SignedFact) (i : ℕ) (f : code.SignedFact) → i < length facts → f ≡ get_or facts i f
    → map fact_view (take (i + 1) facts) ≡ map fact_view (take i facts) ++ fact_view f ∷ []
facts-more facts i f low e =
    ap (map fact_view) (take_more facts i f low ∙ ap (λ (g : code.SignedFact). take i facts ++ g ∷ []) (sym e))
    ∙ map-append fact_view (take i facts) (f ∷ [])

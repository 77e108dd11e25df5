-- Points of rules: what they show of rows, and that they remain points under fewer facts.
use Rattle.std.proofs.Common.{◌≡◌, ◌⊎◌, inl, inr, ℕ, zero, suc, ◌<◌, ◌≤◌, ap, arith, refl, sym, ◌∙◌, subst, List, []}
use Rattle.std.proofs.Common.{◌∷◌, ◌++◌}
use Rattle.std.proofs.Common.{map, length, Bool, true, false, replicate, Some, None}
use Rattle.std.specs.Prelude.{ℤ, pos, negsuc, ◌+ℤ◌, ◌*ℤ◌, ◌<ℤ◌, ◌≤ℤ◌, slice_get, slice_set, nat_eq}
use Rattle.std.specs.List.{All}
use Rattle.std.proofs.lemmas.Int.{ints}
use Rattle.std.proofs.lemmas.Bool.{eqb-true, eq-eqb}
use Rattle.std.proofs.lemmas.List.Elements.{All-cons, All-head, All-tail}
use Rattle.poly_terms.specs.linear_forms.Certificates.{minus_one}
use Rattle.poly_terms.specs.linear_forms.Forms.{Form, form_value}
use Rattle.poly_terms.specs.model.Programs as plain
use Rattle.poly_terms.specs.Views.{form_of}
use Rattle.farkas_cert.specs.Scales.{numerators_of}
use Rattle.farkas_cert.specs.declared.scaled.Scaled.{Scaled}
use Rattle.poly_terms.proofs.model.Cases.{some_same}
use Rattle.simplex_core.proofs.Positions.{slice_get-set_other}
use Rattle.cert_types.specs.guard_prep.declared.rule_rows.RuleRows.{RuleRows}
use Rattle.cert_types.specs.guard_prep.Prepared.{Prepared, prepared}
use Rattle.cert_types.specs.guard_prep.Views.{prepared_of}
use Rattle.rule_questions.specs.ProgramQuestions.{forms_in}
use Rattle.location_facts.specs.declared.fact.LocFact.{LocFact}
use Rattle.location_facts.specs.Implied.{DecidesEmpty}
use Rattle.location_facts.specs.Kept.{HasThose, IsNext, IsImpliedByAll}
use Rattle.location_facts.specs.Pointed.{HasPoint, ArePointed}
use Rattle.location_facts.specs.Replies.{IsRefuting}
use Rattle.location_facts.specs.Rows.{row_before, facts_at, combined}
use Rattle.location_facts.proofs.GoalAnswers.{against-excludes}
use Rattle.location_facts.proofs.DueRules.{those-at}

-- -1 is below 0 at a point
below-there : (d : ℤ) → pos 0 <ℤ d → (pos 0 +ℤ negsuc 0 *ℤ d) <ℤ pos 0
below-there d l = omega (arith, ints, l)

-- if -1 is below 0 over a denominator, the denominator is above 0
over-there : (d : ℤ) → (pos 0 +ℤ negsuc 0 *ℤ d) <ℤ pos 0 → pos 0 <ℤ d
over-there d l = omega (arith, ints, l)

-- rows with a point aren't without one, so no linear program shows that
pub point-excludes : (pivots n : ℕ) (rows : List Form) → All (λ r. length r.coefs ≤ n) rows → HasPoint rows
    → DecidesEmpty pivots n rows None
point-excludes pivots n rows fit h s =
    against-excludes n rows minus_one fit (let l : 0 ≤ n = omega arith in l) h.at h.den
    (let l = h.is.denominator in omega (arith, ints, l))
    h.is.meets (below-there h.den h.is.denominator) s.solution

-- a point that refutes -1 is a point of the rows
pub point-shown : (n : ℕ) (rows : List Form) (goal : Form) (z : Scaled) → goal ≡ minus_one
    → IsRefuting n rows goal z.parts.items z.den → HasPoint rows
point-shown n rows goal z e h = record {
  at = numerators_of z;
  den = pos z.den;
  is = record {
    denominator = over-there (pos z.den)
        (subst (λ (g : Form). form_value g (numerators_of z) (pos z.den) <ℤ pos 0) e h.below);
    meets = h.meets;
  };
}

-- a property of the rows of facts holds of the rows of fewer facts
all-those : (P : Form → Type 0) (Keeps : LocFact → Type 0) (facts those : List LocFact) → HasThose Keeps facts those
    → All P (map row_before facts) → All P (map row_before those)
all-those P Keeps [] those h all = subst (λ (fs : List LocFact). All P (map row_before fs)) (sym h) all
all-those P Keeps (g ∷ facts) those (inl (keeps, (rest, e, h))) all =
    subst (λ (fs : List LocFact). All P (map row_before fs)) (sym e)
    (All-cons P (row_before g) (map row_before rest) (All-head P (row_before g) (map row_before facts) all)
    (all-those P Keeps facts rest h (All-tail P (row_before g) (map row_before facts) all)))
all-those P Keeps (g ∷ facts) those (inr (drops, h)) all =
    all-those P Keeps facts those h (All-tail P (row_before g) (map row_before facts) all)

-- a property of all rows of a list is kept when the rows after the first ones are replaced by others with it
all-behind : (P : Form → Type 0) (own xs ys : List Form) → (All P xs → All P ys) → All P (own ++ xs) → All P (own ++ ys)
all-behind P [] xs ys f all = f all
all-behind P (r ∷ own) xs ys f all =
    All-cons P r (own ++ ys) (All-head P r (own ++ xs) all) (all-behind P own xs ys f (All-tail P r (own ++ xs) all))

-- a point of the rows under a list is one under a list of fewer facts
point-stays : (Keeps : LocFact → Type 0) (own : List Form) (s : ℕ) (old new : List LocFact) → HasThose Keeps old new
    → HasPoint (own ++ map row_before (facts_at s old)) → HasPoint (own ++ map row_before (facts_at s new))
point-stays Keeps own s old new those h = record {
  at = h.at;
  den = h.den;
  is = record {
    denominator = h.is.denominator;
    meets = record {
      each = all-behind (λ (r : Form). pos 0 ≤ℤ form_value r h.at h.den) own (map row_before (facts_at s old))
          (map row_before (facts_at s new))
          (all-those (λ (r : Form). pos 0 ≤ℤ form_value r h.at h.den) Keeps (facts_at s old) (facts_at s new)
          (those-at Keeps s old new those))
          h.is.meets.each;
    };
  };
}

-- the marks of rules with a point remain right under the next list
pub pointed-next : (p : plain.Program) (pivots : ℕ) (old new : List LocFact) (marks : List Bool)
    → IsNext p pivots old new → ArePointed p old marks → ArePointed p new marks
pointed-next p pivots old new marks next are = record {
  each = λ i r marked there.
      point-stays (IsImpliedByAll p pivots old) (forms_in (Some r)).rows (forms_in (Some r)).source old new next
      (are.each i r marked there);
}

-- at first no rule is marked
pub pointed-none : (p : plain.Program) (kept : List LocFact) (n : ℕ) (marks : List Bool) → marks ≡ replicate n false
    → ArePointed p kept marks
pointed-none p kept n marks e =
    record { each = λ i r marked there. absurd (none n i (ap (λ (ms : List Bool). slice_get ms i) (sym e) ∙ marked)) }
  where
    none : (n i : ℕ) → slice_get (replicate n false) i ≡ Some true → ⊥
    none zero i e = cc
    none (suc n) zero e = cc
    none (suc n) (suc i) e = none n i e

-- a point of a rule's combined rows is one of its prepared rows with the facts at its source
pub point-here : (m : RuleRows) (r : plain.Rule) (kept : List LocFact) → prepared_of m ≡ prepared r
    → HasPoint (combined (forms_in (Some r)) kept)
    → HasPoint (map form_of m.rows.items ++ map row_before (facts_at r.source kept))
point-here m r kept e h =
    subst (λ (fs : List Form). HasPoint (fs ++ map row_before (facts_at r.source kept)))
    (sym (ap (λ (q : Prepared). q.rows) e)) h

-- a point of a rule's prepared rows with the facts at its source is one of its combined rows
pub point-there : (m : RuleRows) (r : plain.Rule) (kept : List LocFact) → prepared_of m ≡ prepared r
    → HasPoint (map form_of m.rows.items ++ map row_before (facts_at r.source kept))
    → HasPoint (combined (forms_in (Some r)) kept)
point-there m r kept e h =
    subst (λ (fs : List Form). HasPoint (fs ++ map row_before (facts_at r.source kept)))
    (ap (λ (q : Prepared). q.rows) e) h

-- after one more rule is marked, if it has a point
pub pointed-more : (p : plain.Program) (kept : List LocFact) (a b : List Bool) (i : ℕ) (m : RuleRows) (r : plain.Rule)
    (has : Bool) → ArePointed p kept a
    → prepared_of m ≡ prepared r → slice_get p.rules i ≡ Some r
    → (has ≡ true → HasPoint (map form_of m.rows.items ++ map row_before (facts_at r.source kept)))
    → ((j : ℕ) → slice_get b j ≡ Some true → (slice_get a j ≡ Some true) ⊎ ((j ≡ i) × (has ≡ true)))
    → ArePointed p kept b
pointed-more p kept a b i m r has are same at point marks =
    record { each = λ j q marked there. go j q there (marks j marked) }
  where
    go : (j : ℕ) (q : plain.Rule) → slice_get p.rules j ≡ Some q
        → (slice_get a j ≡ Some true) ⊎ ((j ≡ i) × (has ≡ true)) → HasPoint (combined (forms_in (Some q)) kept)
    go j q there (inl was) = are.each j q was there
    go j q there (inr (e, on)) =
        let rule : r ≡ q = some_same r q (sym at ∙ (ap (λ (k : ℕ). slice_get p.rules k) (sym e) ∙ there)) in
        subst (λ (x : plain.Rule). HasPoint (combined (forms_in (Some x)) kept)) rule
        (point-there m r kept same (point on))

-- a mark is set
pub marked-set : (a : List Bool) (i : ℕ) (has : Bool) → i < length a → has ≡ true → (j : ℕ)
    → slice_get (slice_set a i true) j ≡ Some true
    → (slice_get a j ≡ Some true) ⊎ ((j ≡ i) × (has ≡ true))
marked-set a i has below on j marked = go (nat_eq j i) refl
  where
    go : (v : Bool) → nat_eq j i ≡ v → (slice_get a j ≡ Some true) ⊎ ((j ≡ i) × (has ≡ true))
    go true e = inr (eqb-true j i e, on)
    go false e = inl (sym (slice_get-set_other a i j true (λ same. let t = eq-eqb j i same in cc)) ∙ marked)

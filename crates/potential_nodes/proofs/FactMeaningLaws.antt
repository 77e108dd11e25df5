-- What signed facts mean for runs.
use Rattle.std.proofs.Common.{◌≡◌, ◌≢◌, ◌⊎◌, inl, inr, ◌≤◌, ◌<◌, ◌+◌, ℕ, zero, suc, ◌==◌, true, false, List, [], ◌∷◌}
use Rattle.std.proofs.Common.{◌++◌, length, map, Option, Some, None, refl, sym, ap, ◌∙◌, subst, arith}
use Rattle.std.specs.Prelude.{ℤ, pos, negsuc, neg_ℤ, ◌≤ℤ◌, slice_get, slice_index_or, nat_abs, max}
use Rattle.std.proofs.lemmas.Int.{ints}
use Rattle.std.proofs.lemmas.Bool.Decides.{eqb_tells}
use Rattle.potentials.specs.model.Terms.{Term, value}
use Rattle.potentials.specs.model.Programs.{Program, Rule, rule_at}
use Rattle.potentials.specs.model.Polynomials.{Polynomial, polynomial_value}
use Rattle.potentials.specs.model.Runs.{Config, Step, IsRun, IsStep, count, last_rule, place_value}
use Rattle.potentials.specs.model.Spending.{or_zero, values_after, cost_by, spent}
use Rattle.potentials.specs.Sums.{Charge, charges, weighed, variables_at}
use Rattle.potentials.proofs.model.Cases.{none_some, some_same}
use Rattle.potentials.proofs.model.SpendingSums.{number_in_range}
use Rattle.potentials.proofs.model.RunLaws.{one_if_same-same, one_if_same-other}
use Rattle.potentials.proofs.SumLaws.{variables-are}
use Rattle.signed_bounds.specs.poly_terms.Laws.{HasTheValueOf}
use Rattle.signed_bounds.specs.Bounds.{Signed, MaximumOf, NoParts, Part, signed_val}
use Rattle.potential_nodes.specs.Facts.{SignedFact, SumFact, PeakFact, SizeFact, HoldsSigned, once_charge}
use Rattle.potential_nodes.specs.FactMeanings.{once_charges, HasUpdate, HasCost, FactsBoundRuns}
use Rattle.potential_nodes.proofs.PlainFactLaws.{once-counted}

-- a rule occurs at most as often as the sum of 1 for each of its steps
counted-once : (p : Program) (t : ℕ) → t ≢ 0 → (start : List ℤ) (steps : List Step)
    → count t steps ≤ weighed p (charges (once_charge t ∷ [])) start steps
counted-once p t other start [] = let none = one_if_same-other 0 t (λ e. other (sym e)) in omega (arith, none)
counted-once p t other start (s ∷ earlier) = go (eqb_tells t s.rule) (counted-once p t other start earlier)
  where
    go : ((t == s.rule) ≡ true) × (t ≡ s.rule) ⊎ ((t == s.rule) ≡ false) × (t ≢ s.rule)
        → count t earlier ≤ weighed p (charges (once_charge t ∷ [])) start earlier
        → count t (s ∷ earlier) ≤ weighed p (charges (once_charge t ∷ [])) start (s ∷ earlier)
    go (inl (test, same)) ih = let one = one_if_same-same s.rule t (sym same) in rw test (omega (arith, ih, one))
    go (inr (test, different)) ih =
        let none = one_if_same-other s.rule t (λ e. different (sym e)) in rw test (omega (arith, ih, none))

-- the charge of a step by one of these rules is at least 1
charged-once : (t n u : ℕ) (env : List ℤ) → t ≤ u → u < t + n → 1 ≤ charges (once_charges t n) u env
charged-once t zero u env low high = absurd (omega arith)
charged-once t (suc n) u env low high = go (eqb_tells t u) (λ h. charged-once (suc t) n u env h (omega arith))
  where
    go : ((t == u) ≡ true) × (t ≡ u) ⊎ ((t == u) ≡ false) × (t ≢ u)
        → (suc t ≤ u → 1 ≤ charges (once_charges (suc t) n) u env)
        → 1 ≤ charges (once_charges t (suc n)) u env
    go (inl (test, same)) ih = rw test (omega arith)
    go (inr (test, different)) ih =
        let above : suc t ≤ u = higher t u low different in
        let later = ih above in rw test (omega (arith, later))
      where
        higher : (a b : ℕ) → a ≤ b → a ≢ b → suc a ≤ b
        higher a b h ne = elim (cases a b h) [ inl k ↦ k | inr e ↦ absurd (ne e) ]
          where
            cases : (a b : ℕ) → a ≤ b → (suc a ≤ b) ⊎ (a ≡ b)
            cases zero zero h = inr refl
            cases zero (suc b) h = inl (omega arith)
            cases (suc a) zero h = absurd (omega arith)
            cases (suc a) (suc b) h = elim (cases a b (omega arith)) [ inl k ↦ inl (omega arith) | inr e ↦ inr (ap suc e) ]

-- a run is at most as long as the sum of 1 for each step by each rule
length-charged : (p : Program) (start : List ℤ) (steps : List Step) (c : Config) → IsRun p start steps c
    → length steps ≤ weighed p (charges (once_charges 1 (length p.rules))) start steps
length-charged p start [] c run = omega arith
length-charged p start (s ∷ earlier) c (b, run, step) =
    let range = number_in_range p s.rule step.rule step.numbered in
    let one = charged-once 1 (length p.rules) s.rule (variables_at p start s earlier) range.0 range.1 in
    let others = length-charged p start earlier b run in
    omega (arith, one, others)

-- the spending of a rule is the sum of a polynomial that has the value of the rule's cost
spent-charged : (p : Program) (t : ℕ) (cost : Term) (form : Polynomial) → HasCost p t cost → HasTheValueOf cost form
    → (start : List ℤ) (steps : List Step)
    → spent p t start steps ≤ weighed p (charges (record { rule = t; form = form } ∷ [])) start steps
spent-charged p t cost form has is start [] = omega arith
spent-charged p t cost form has is start (s ∷ earlier) =
    go (eqb_tells s.rule t) (eqb_tells t s.rule) (spent-charged p t cost form has is start earlier)
  where
    env : List ℤ
    env = variables_at p start s earlier

    here : s.rule ≡ t → cost_by (rule_at p s.rule) env ≡ or_zero (polynomial_value form env)
    here same =
        ap (λ (u : ℕ). cost_by (rule_at p u) env) same
        ∙ ap (λ (o : Option Rule). cost_by o env) has.numbered
        ∙ ap (λ (o : Option Term). cost_by (Some (record {
          source = has.rule.source;
          target = has.rule.target;
          left = has.rule.left;
          free = has.rule.free;
          names = has.rule.names;
          updates = has.rule.updates;
          guard = has.rule.guard;
          cost = o;
        })) env) has.written
        ∙ ap or_zero (sym (is.each env))

    go : ((s.rule == t) ≡ true) × (s.rule ≡ t) ⊎ ((s.rule == t) ≡ false) × (s.rule ≢ t)
        → ((t == s.rule) ≡ true) × (t ≡ s.rule) ⊎ ((t == s.rule) ≡ false) × (t ≢ s.rule)
        → spent p t start earlier ≤ weighed p (charges (record { rule = t; form = form } ∷ [])) start earlier
        → spent p t start (s ∷ earlier) ≤ weighed p (charges (record { rule = t; form = form } ∷ [])) start (s ∷ earlier)
    go (inl (test, same)) (inl (test', same')) ih = let k = here same in rw test (rw test' (omega (arith, ih, k)))
    go (inl (test, same)) (inr (test', other)) ih = absurd (other (sym same))
    go (inr (test, other)) (inl (test', same)) ih = absurd (other (sym same))
    go (inr (test, other)) (inr (test', other')) ih = rw test (rw test' (omega (arith, ih)))

-- the element at a position of a mapped list is the image of that at the position
map-at : (f : Term → ℤ) (us : List Term) (i : ℕ) (u : Term) → slice_get us i ≡ Some u
    → slice_index_or (map f us) i (pos 0) ≡ f u
map-at f [] i u h = absurd (none_some u h)
map-at f (v ∷ us) zero u h = ap f (some_same v u h)
map-at f (v ∷ us) (suc i) u h = map-at f us i u h

-- the value at a place after a step is that of the rule's update
value-behind : (p : Program) (t i : ℕ) (u : Term) → HasUpdate p t i u → (start : List ℤ) (s : Step)
    (earlier : List Step) (c : Config) → IsRun p start (s ∷ earlier) c → s.rule ≡ t
    → place_value c (suc i) ≡ value u (variables_at p start s earlier)
value-behind p t i u has start s earlier c (b, run, step) same =
    let rule : step.rule ≡ has.rule =
    some_same step.rule has.rule (sym step.numbered ∙ ap (rule_at p) same ∙ has.numbered) in
    let update : slice_get step.rule.updates i ≡ Some u =
    ap (λ (r : Rule). slice_get r.updates i) rule ∙ has.update in
    ap (λ (vs : List ℤ). slice_index_or vs i (pos 0)) step.leads.values
    ∙ map-at (λ w. value w (b.values ++ s.free)) step.rule.updates i u update
    ∙ ap (value u) (variables-are p start s earlier b run)

-- the absolute value of an integer is at most the greater of a and b, if it is at most a, and its negation at most b
abs-le : (z : ℤ) (a b : ℕ) → z ≤ℤ pos a → neg_ℤ z ≤ℤ pos b → nat_abs z ≤ max a (max b 0)
abs-le (pos n) a b h k = omega (arith, ints)
abs-le (negsuc n) a b h k = omega (arith, ints)

pub facts_bound_runs : FactsBoundRuns
facts_bound_runs = record {
  counts = λ p t b other holds start steps c run.
      let sum = holds.each start steps c run in
      let once = counted-once p t other start steps in
      omega (arith, sum, once);
  counted = λ p t b holds. record {
    each = λ start steps c run.
        let times = holds start steps c run in
        let once = once-counted p t start steps in
        omega (arith, times, once);
  };
  lengths = λ p b holds start steps c run.
      let sum = holds.each start steps c run in
      let once = length-charged p start steps c run in
      omega (arith, sum, once);
  costs = λ p t cost form b has is holds start steps c run.
      let sum = holds.each start steps c run in
      let all = spent-charged p t cost form has is start steps in
      omega (arith, sum, all);
  above = λ p t i u form b has is holds start s earlier c run same.
      let peak = holds.each start s earlier c run same in
      let behind = value-behind p t i u has start s earlier c run same in
      let written = is.each (variables_at p start s earlier) in
      subst (λ (z : ℤ). z ≤ℤ pos (signed_val b start)) (written ∙ sym behind) peak;
  below = λ p t i u form b has is holds start s earlier c run same.
      let peak = holds.each start s earlier c run same in
      let behind = value-behind p t i u has start s earlier c run same in
      let written = is (variables_at p start s earlier) in
      subst (λ (z : ℤ). z ≤ℤ pos (signed_val b start)) (written ∙ ap neg_ℤ (sym behind)) peak;
  sizes = λ p t i u form opposite a b other has is against up down. record {
    each = λ start steps c run last. size p t i u form opposite a b other has is against up down start steps c run last;
  };
}
  where
    size : (p : Program) (t i : ℕ) (u : Term) (form opposite : Polynomial) (a b : Signed) → t ≢ 0 → HasUpdate p t i u
        → HasTheValueOf u form → ((env : List ℤ) → polynomial_value opposite env ≡ neg_ℤ (value u env))
        → HoldsSigned p (PeakFact t form a) → HoldsSigned p (PeakFact t opposite b)
        → (start : List ℤ) (steps : List Step) (c : Config) → IsRun p start steps c → last_rule steps ≡ t
        → nat_abs (place_value c (suc i)) ≤ max (signed_val a start) (max (signed_val b start) 0)
    size p t i u form opposite a b other has is against up down start [] c run last = absurd (other (sym last))
    size p t i u form opposite a b other has is against up down start (s ∷ earlier) c run same =
        let behind = value-behind p t i u has start s earlier c run same in
        let high = up.each start s earlier c run same in
        let low = down.each start s earlier c run same in
        let env = variables_at p start s earlier in
        abs-le (place_value c (suc i)) (signed_val a start) (signed_val b start)
        (subst (λ (z : ℤ). z ≤ℤ pos (signed_val a start)) (is.each env ∙ sym behind) high)
        (subst (λ (z : ℤ). z ≤ℤ pos (signed_val b start)) (against env ∙ ap neg_ℤ (sym behind)) low)

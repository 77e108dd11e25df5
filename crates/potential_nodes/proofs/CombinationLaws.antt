-- Composed facts hold.
use Rattle.std.proofs.Common.{◌≡◌, ℕ, ◌+◌, ◌*◌, ◌≤◌, ◌==◌, min, Bool, true, false, List, [], ◌∷◌, ◌++◌, Option, Some, None, refl, sym, ◌∙◌, ap, subst, arith}
use Rattle.std.specs.Prelude.{ℤ, ◌&&◌, if◌then◌else◌, option_map, nat_le, length}
use Rattle.std.proofs.lemmas.Bool.{true≢false}
use Rattle.std.proofs.lemmas.Bool.Decides.{nat_tests}
use Rattle.std.proofs.Math.Nat.{le-min, min-le_left, min-le_right}
use Rattle.potentials.specs.model.Programs.{Program}
use Rattle.potentials.specs.model.Polynomials.{Polynomial, polynomial_value}
use Rattle.potentials.specs.model.Spending.{or_zero}
use Rattle.potentials.specs.Sums.{Charge, charge_at, charges, once_for, HoldsSum, HoldsPeak}
use Rattle.potentials.proofs.NodeLaws.{times, least_sums, least_peaks, added_sums, parts, bounds_above, peak_bounds_above}
use Rattle.potentials.proofs.model.Cases.{none_some, some_same}
use Rattle.potentials.proofs.model.Membership.{same_number-sound}
use Rattle.signed_bounds.specs.Bounds.{Signed, SumOf, ProductOf, signed_val}
use Rattle.signed_bounds.specs.Safe.{IsSafe}
use Rattle.signed_bounds.specs.Within.{WithinHolds}
use Rattle.potential_nodes.specs.Lookup.{is_there, numbered}
use Rattle.potential_nodes.specs.Ground.{Ground}
use Rattle.potential_nodes.specs.Facts.{SignedFact, SumFact, PeakFact, SizeFact, HoldsSigned, AllSignedHold, same_charge, same_charges}
use Rattle.potential_nodes.specs.Facts.{same_polynomial, sum_bound, peak_bound, once_charge}
use Rattle.potential_nodes.specs.Checks.{AllHold}
use Rattle.potential_nodes.specs.Combinations.{Combination, Times, Least, Add, Among, both_parts, product_fact, lesser, least_fact}
use Rattle.potential_nodes.specs.Combinations.{charge_limit, added_fact, without_charge, are_among, among_fact, composed, bound_of}
use Rattle.potential_nodes.specs.Combinations.{is_within_fact, combination_checks, stated_in, combination_fact}
use Rattle.potential_nodes.proofs.LookupLaws.{both-hold, all-numbered}
use Rattle.potential_nodes.proofs.FactLaws.{same_charge-is, same_charges-is, same_polynomial-is, sum_bound-holds, peak_bound-holds}
use Rattle.potential_nodes.proofs.BoundLaws.{within-above, fact-above}

-- the charges of two lists joined are the sum of their charges
pub charges-append : (cs ds : List Charge) (t : ℕ) (env : List ℤ) → charges (cs ++ ds) t env ≡ charges cs t env + charges ds t env
charges-append [] ds t env = omega arith
charges-append (c ∷ cs) ds t env = let others = charges-append cs ds t env in omega (arith, others)

-- the charges of a list are one of them and those of the others
without-charge : (c : Charge) (ds rest : List Charge) → without_charge c ds ≡ Some rest → (t : ℕ) (env : List ℤ)
    → charges ds t env ≡ charge_at c t env + charges rest t env
without-charge c [] rest h t env = absurd (none_some _ h)
without-charge c (d ∷ ds) rest h t env = go (same_charge c d) refl (without_charge c ds) refl h (λ r e. without-charge c ds r e t env)
  where
    by_rest : (o : Option (List Charge)) → without_charge c ds ≡ o → option_map (λ r. d ∷ r) o ≡ Some rest
        → ((r : List Charge) → without_charge c ds ≡ Some r → charges ds t env ≡ charge_at c t env + charges r t env)
        → charges (d ∷ ds) t env ≡ charge_at c t env + charges rest t env
    by_rest None e k ih = absurd (none_some _ k)
    by_rest (Some r) e k ih =
        let is = ih r e in
        let same = ap (λ (xs : List Charge). charges xs t env) (some_same _ _ k) in
        omega (arith, is, same)

    go : (v : Bool) → same_charge c d ≡ v → (o : Option (List Charge)) → without_charge c ds ≡ o
        → without_charge c (d ∷ ds) ≡ Some rest
        → ((r : List Charge) → without_charge c ds ≡ Some r → charges ds t env ≡ charge_at c t env + charges r t env)
        → charges (d ∷ ds) t env ≡ charge_at c t env + charges rest t env
    go true e o f k ih =
        let first = ap (λ (x : Charge). charge_at x t env) (same_charge-is c d e) in
        let same = ap (λ (xs : List Charge). charges xs t env) (some_same _ _ (rw e at k)) in
        omega (arith, first, same)
    go false e o f k ih = by_rest o f (rw (e, f) at k) ih

-- charges that are among others add up to at most the others
among-less : (cs ds : List Charge) → are_among cs ds ≡ true → (t : ℕ) (env : List ℤ) → charges cs t env ≤ charges ds t env
among-less [] ds h t env = omega arith
among-less (c ∷ cs) ds h t env = go (without_charge c ds) refl h (λ rest k. among-less cs rest k t env)
  where
    go : (o : Option (List Charge)) → without_charge c ds ≡ o
        → (elim o as (λ _. Bool) [ None ↦ false | Some rest ↦ are_among cs rest ]) ≡ true
        → ((rest : List Charge) → are_among cs rest ≡ true → charges cs t env ≤ charges rest t env)
        → charges (c ∷ cs) t env ≤ charges ds t env
    go None e k ih = absurd (true≢false (sym k))
    go (Some rest) e k ih =
        let is = without-charge c ds rest e t env in
        let less = ih rest k in
        omega (arith, is, less)

-- the lesser of two numbers doesn't depend on their order
min-swapped : (a b : ℕ) → min a b ≤ min b a
min-swapped a b = le-min (min-le_right a b) (min-le_left a b)

module _ (p : Program) where
  -- the fact composed of a time and a peak holds
  product-holds : (rule : ℕ) (form : Polynomial) (often high : Signed)
      → HoldsSum p (charges (once_charge rule ∷ [])) (signed_val often)
      → HoldsPeak p rule (λ env. polynomial_value form env) (signed_val high)
      → HoldsSigned p (SumFact (record { rule = rule; form = form } ∷ []) (ProductOf (both_parts often high)))
  product-holds rule form often high time peak =
      let once = parts p (once_for rule) (charges (once_charge rule ∷ [])) (signed_val often) (λ t env. counted t env) time in
      let sum = times p rule (λ env. polynomial_value form env) (signed_val often) (signed_val high) once peak in
      let all = parts p (charges (record { rule = rule; form = form } ∷ []))
      (λ t env. if t == rule then or_zero (polynomial_value form env) else 0) (λ start. signed_val often start * signed_val high start)
      (λ t env. charged t env) sum in
      bounds_above p (charges (record { rule = rule; form = form } ∷ [])) (λ start. signed_val often start * signed_val high start)
      (signed_val (ProductOf (both_parts often high))) (λ start. omega arith) all
    where
      swapped : (t : ℕ) → (rule == t) ≡ (t == rule)
      swapped t = grind (arith, nat_tests)

      counted : (t : ℕ) (env : List ℤ) → once_for rule t env ≤ charges (once_charge rule ∷ []) t env
      counted t env = go (t == rule) refl
        where
          go : (v : Bool) → (t == rule) ≡ v → once_for rule t env ≤ charges (once_charge rule ∷ []) t env
          go true e = rw e (rw (swapped t ∙ e) (omega arith))
          go false e = rw e (omega arith)

      charged : (t : ℕ) (env : List ℤ) → charges (record { rule = rule; form = form } ∷ []) t env
          ≤ (if t == rule then or_zero (polynomial_value form env) else 0)
      charged t env = go (t == rule) refl
        where
          go : (v : Bool) → (t == rule) ≡ v → charges (record { rule = rule; form = form } ∷ []) t env
              ≤ (if t == rule then or_zero (polynomial_value form env) else 0)
          go true e = rw e (rw (swapped t ∙ e) (omega arith))
          go false e = rw e (rw (swapped t ∙ e) (omega arith))

  -- the fact with the lesser of two bounds holds
  least-holds : (a b : SignedFact) (fact : SignedFact) → least_fact (Some a) (Some b) ≡ Some fact → HoldsSigned p a
      → HoldsSigned p b → HoldsSigned p fact
  least-holds (SumFact goal a) (SumFact goal' b) fact h one two = go (same_charges goal goal') refl h
    where
      go : (v : Bool) → same_charges goal goal' ≡ v → (if v then Some (SumFact goal (lesser a b)) else None) ≡ Some fact
          → HoldsSigned p fact
      go true e k =
          let other = subst (λ (cs : List Charge). HoldsSum p (charges cs) (signed_val b)) (sym (same_charges-is goal goal' e)) two in
          let both = least_sums p (charges goal) (signed_val a) (signed_val b) one other in
          subst (λ (x : SignedFact). HoldsSigned p x) (some_same _ _ k)
          (bounds_above p (charges goal) (λ start. min (signed_val a start) (signed_val b start)) (signed_val (lesser a b))
          (λ start. min-swapped (signed_val a start) (signed_val b start)) both)
      go false e k = absurd (none_some _ k)
  least-holds (PeakFact rule form a) (PeakFact rule' form' b) fact h one two =
      go ((rule == rule') && same_polynomial form form') refl h
    where
      go : (v : Bool) → ((rule == rule') && same_polynomial form form') ≡ v
          → (if v then Some (PeakFact rule form (lesser a b)) else None) ≡ Some fact → HoldsSigned p fact
      go true e k =
          let same = both-hold (rule == rule') (same_polynomial form form') e in
          let here = subst (λ (t : ℕ). HoldsPeak p t (λ env. polynomial_value form' env) (signed_val b)) (sym (same_number-sound rule rule' same.0)) two in
          let other = subst (λ (q : Polynomial). HoldsPeak p rule (λ env. polynomial_value q env) (signed_val b)) (sym (same_polynomial-is form form' same.1)) here in
          let both = least_peaks p rule (λ env. polynomial_value form env) (signed_val a) (signed_val b) one other in
          subst (λ (x : SignedFact). HoldsSigned p x) (some_same _ _ k)
          (peak_bounds_above p rule (λ env. polynomial_value form env) (λ start. min (signed_val a start) (signed_val b start))
          (signed_val (lesser a b)) (λ start. min-swapped (signed_val a start) (signed_val b start)) both)
      go false e k = absurd (none_some _ k)
  least-holds (SumFact goal a) (PeakFact rule form b) fact h one two = absurd (none_some _ h)
  least-holds (SumFact goal a) (SizeFact rule place b) fact h one two = absurd (none_some _ h)
  least-holds (PeakFact rule form a) (SumFact goal b) fact h one two = absurd (none_some _ h)
  least-holds (PeakFact rule form a) (SizeFact rule' place b) fact h one two = absurd (none_some _ h)
  least-holds (SizeFact rule place a) b fact h one two = absurd (none_some _ h)

  -- the fact on two sums together holds
  added-holds : (a b : SignedFact) (fact : SignedFact) → added_fact (Some a) (Some b) ≡ Some fact → HoldsSigned p a
      → HoldsSigned p b → HoldsSigned p fact
  added-holds (SumFact goal a) (SumFact goal' b) fact h one two = go (nat_le (length goal + length goal') charge_limit) h
    where
      joined : HoldsSum p (charges (goal ++ goal')) (λ start. signed_val a start + signed_val b start)
      joined =
          parts p (charges (goal ++ goal')) (λ t env. charges goal t env + charges goal' t env)
          (λ start. signed_val a start + signed_val b start)
          (λ t env. let is = charges-append goal goal' t env in omega (arith, is))
          (added_sums p (charges goal) (charges goal') (signed_val a) (signed_val b) one two)

      go : (v : Bool) → (if v then Some (SumFact (goal ++ goal') (SumOf (both_parts a b))) else None) ≡ Some fact
          → HoldsSigned p fact
      go true k =
          subst (λ (x : SignedFact). HoldsSigned p x) (some_same _ _ k)
          (bounds_above p (charges (goal ++ goal')) (λ start. signed_val a start + signed_val b start)
          (signed_val (SumOf (both_parts a b))) (λ start. omega arith) joined)
      go false k = absurd (none_some _ k)
  added-holds (SumFact goal a) (PeakFact rule form b) fact h one two = absurd (none_some _ h)
  added-holds (SumFact goal a) (SizeFact rule place b) fact h one two = absurd (none_some _ h)
  added-holds (PeakFact rule form a) b fact h one two = absurd (none_some _ h)
  added-holds (SizeFact rule place a) b fact h one two = absurd (none_some _ h)

  -- the fact on charges that are among those of a sum holds
  among-holds : (goal : List Charge) (a : SignedFact) (fact : SignedFact) → among_fact goal (Some a) ≡ Some fact
      → HoldsSigned p a → HoldsSigned p fact
  among-holds goal (SumFact goal' a) fact h one = go (are_among goal goal') refl h
    where
      go : (v : Bool) → are_among goal goal' ≡ v → (if v then Some (SumFact goal a) else None) ≡ Some fact
          → HoldsSigned p fact
      go true e k =
          subst (λ (x : SignedFact). HoldsSigned p x) (some_same _ _ k)
          (parts p (charges goal) (charges goal') (signed_val a) (among-less goal goal' e) one)
      go false e k = absurd (none_some _ k)
  among-holds goal (PeakFact rule form a) fact h one = absurd (none_some _ h)
  among-holds goal (SizeFact rule place a) fact h one = absurd (none_some _ h)

  module _ (facts : List SignedFact) (hold : AllSignedHold p facts) where
    -- the fact of a cited lemma holds
    lemma-holds : (n : ℕ) (fact : SignedFact) → numbered facts n ≡ Some fact → HoldsSigned p fact
    lemma-holds n fact e = all-numbered (λ x. HoldsSigned p x) facts n fact e hold

    -- a composed fact holds
    pub composed-holds : (n : Combination) (fact : SignedFact) → composed facts n ≡ Some fact → HoldsSigned p fact
    composed-holds (Times rule form time peak) fact h =
        go (sum_bound facts (once_charge rule ∷ []) time) refl (peak_bound facts rule form peak) refl h
      where
        go : (o : Option Signed) → sum_bound facts (once_charge rule ∷ []) time ≡ o → (q : Option Signed)
            → peak_bound facts rule form peak ≡ q → product_fact rule form o q ≡ Some fact → HoldsSigned p fact
        go (Some often) e (Some high) f k =
            subst (λ (x : SignedFact). HoldsSigned p x) (some_same _ _ k)
            (product-holds rule form often high (sum_bound-holds p facts hold (once_charge rule ∷ []) time often e)
            (peak_bound-holds p facts hold rule form peak high f))
        go (Some often) e None f k = absurd (none_some _ k)
        go None e q f k = absurd (none_some _ k)
    composed-holds (Least a b) fact h = go (numbered facts a) refl (numbered facts b) refl h
      where
        go : (o : Option SignedFact) → numbered facts a ≡ o → (q : Option SignedFact) → numbered facts b ≡ q
            → least_fact o q ≡ Some fact → HoldsSigned p fact
        go (Some x) e (Some y) f k = least-holds x y fact k (lemma-holds a x e) (lemma-holds b y f)
        go (Some (SumFact goal c)) e None f k = absurd (none_some _ k)
        go (Some (PeakFact rule form c)) e None f k = absurd (none_some _ k)
        go (Some (SizeFact rule place c)) e None f k = absurd (none_some _ k)
        go None e q f k = absurd (none_some _ k)
    composed-holds (Add a b) fact h = go (numbered facts a) refl (numbered facts b) refl h
      where
        go : (o : Option SignedFact) → numbered facts a ≡ o → (q : Option SignedFact) → numbered facts b ≡ q
            → added_fact o q ≡ Some fact → HoldsSigned p fact
        go (Some x) e (Some y) f k = added-holds x y fact k (lemma-holds a x e) (lemma-holds b y f)
        go (Some (SumFact goal c)) e None f k = absurd (none_some _ k)
        go (Some (PeakFact rule form c)) e None f k = absurd (none_some _ k)
        go (Some (SizeFact rule place c)) e None f k = absurd (none_some _ k)
        go None e q f k = absurd (none_some _ k)
    composed-holds (Among goal a) fact h = go (numbered facts a) refl h
      where
        go : (o : Option SignedFact) → numbered facts a ≡ o → among_fact goal o ≡ Some fact → HoldsSigned p fact
        go (Some x) e k = among-holds goal x fact k (lemma-holds a x e)
        go None e k = absurd (none_some _ k)

-- the stated fact of accepted composed facts holds
pub combination-holds : WithinHolds → (g : Ground) (facts : List SignedFact) (n : Combination) (b : Signed)
    → IsSafe g.is_safe → AllSignedHold g.program facts → AllHold (combination_checks g facts n b)
    → HoldsSigned g.program (combination_fact facts n b)
combination-holds within_holds g facts n b safe hold (there, (test, none)) = go (composed facts n) refl there test
  where
    go : (o : Option SignedFact) → composed facts n ≡ o → is_there o ≡ true → is_within_fact g o b ≡ true
        → HoldsSigned g.program (stated_in o b)
    go None e k l = absurd (true≢false (sym k))
    go (Some fact) e k l =
        fact-above g.program fact b (within-above within_holds g.is_safe safe (bound_of fact) b l)
        (composed-holds g.program facts hold n fact e)

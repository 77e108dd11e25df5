-- Facts about a program that simulates another give facts about the other.
use Rattle.std.proofs.Common.{◌≡◌, ◌≢◌, ◌⊎◌, inl, inr, ◌≤◌, ℕ, zero, suc, ◌==◌, true, false, List, [], ◌∷◌}
use Rattle.std.proofs.Common.{map, Option, Some, None, refl, sym, ap, ◌∙◌, subst, arith}
use Rattle.std.specs.Prelude.{ℤ, pos, negsuc, neg_ℤ, ◌≤ℤ◌, nat_abs, slice_get}
use Rattle.std.proofs.lemmas.Int.{ints}
use Rattle.std.proofs.lemmas.Bool.Decides.{eqb_tells}
use Rattle.model.specs.Terms.{Term, Negation}
use Rattle.model.specs.Programs.{Program, Rule, rule_at}
use Rattle.model.specs.Polynomials.{Polynomial, polynomial_value}
use Rattle.model.specs.Runs.{Config, Step, IsRun, last_rule, place_value}
use Rattle.model.specs.Spending.{or_zero, cost_at, cost_by}
use Rattle.model.proofs.Cases.{none_some, some_same}
use Rattle.poly_terms.specs.Expanding.{expanded}
use Rattle.poly_terms.proofs.Values.{expanded-value}
use Rattle.refinement.specs.Simulation.{Projection, config_below, step_below, Simulates}
use Rattle.refinement.proofs.Bounds.{cost-below}
use Rattle.refinement.proofs.Keeping.{simulation_keeps_bounds}
use Rattle.signed_bounds.specs.Bounds.{Signed, signed_val}
use Rattle.signed_bounds.specs.Safe.{IsSafe, expands_to_squares}
use Rattle.signed_bounds.specs.Within.{WithinHolds}
use Rattle.potentials.specs.Sums.{Weight, weighed, charges, once_for, cost_for, cost_of_each, HoldsSum}
use Rattle.potentials.proofs.SumLaws.{count-is, spent-is, spent-all-is}
use Rattle.potential_nodes.specs.Facts.{SignedFact, PeakFact, SizeFact, HoldsSigned, AllSignedHold, one_form, is_never}
use Rattle.potential_nodes.specs.FactMeanings.{HasUpdate}
use Rattle.potential_nodes.proofs.BoundLaws.{within-above}
use Rattle.potential_nodes.proofs.FactLaws.{never-steps}
use Rattle.potential_nodes.proofs.FactMeaningLaws.{facts_bound_runs}
use Rattle.program_claims.specs.Claims.{Time, Cost, Total, Above, Below, HoldsOf}
use Rattle.program_claims.specs.Copies.{copies_of, charge_each, cost_charges, update_at}
use Rattle.program_claims.specs.Heads.{are_heads_within}
use Rattle.program_claims.proofs.Weights.{weighed-at_most, weighed-below}
use Rattle.program_claims.proofs.CopyLaws.{copy-charged, cost-charged}
use Rattle.program_claims.proofs.PeakBounds.{HasHead, copy-bounded}

-- the number of an existing rule isn't 0
numbered-above : (p : Program) (t : ℕ) (r : Rule) → rule_at p t ≡ Some r → t ≢ 0
numbered-above p zero r h e = none_some r h
numbered-above p (suc t) r h e = omega (arith, e)

-- an update that is found, or a cost, is that of an existing rule
pub of-rule : (p : Program) (t place : ℕ) (u : Term) → update_at (rule_at p t) place ≡ Some u
    → (r : Rule) × (i : ℕ) × (rule_at p t ≡ Some r) × (place ≡ suc i) × (slice_get r.updates i ≡ Some u)
of-rule p t place u h = go (rule_at p t) refl place refl h
  where
    go : (o : Option Rule) → rule_at p t ≡ o → (k : ℕ) → place ≡ k → update_at o k ≡ Some u
        → (r : Rule) × (i : ℕ) × (rule_at p t ≡ Some r) × (place ≡ suc i) × (slice_get r.updates i ≡ Some u)
    go None e k at h' = absurd (none_some u h')
    go (Some r) e zero at h' = absurd (none_some u h')
    go (Some r) e (suc i) at h' = (r, i, e, at, h')

-- an integer, and its negation, are at most its absolute value
pub up-to : (z : ℤ) (n : ℕ) → nat_abs z ≤ n → z ≤ℤ pos n
up-to (pos m) n h = omega (arith, ints, h)
up-to (negsuc m) n h = omega (arith, ints, h)

pub down-to : (z : ℤ) (n : ℕ) → nat_abs z ≤ n → neg_ℤ z ≤ℤ pos n
down-to (pos m) n h = omega (arith, ints, h)
down-to (negsuc m) n h = omega (arith, ints, h)

-- the configuration at the end of the run below has the same values
ends-same : (o : Projection) (c end : Config) (i : ℕ) → config_below o end ≡ c
    → place_value end (suc i) ≡ place_value c (suc i)
ends-same o c end i e = ap (λ (x : Config). place_value x (suc i)) e

module _ (p q : Program) (o : Projection) (HasFacts : Config → Type 0) (simulates : Simulates q p o HasFacts)
    (facts : List SignedFact) (hold : AllSignedHold q facts) where
  -- if a sum over the runs of q is bounded, and charges each rule at least the weight of p's rule below, the sum of the
  -- weights of p's steps is at most the bound
  below-sum : (w v : Weight) (bound : List ℤ → ℕ)
      → ((t : ℕ) (r : Rule) (env : List ℤ) → rule_at q t ≡ Some r → w (o.rule t) env ≤ v t env) → HoldsSum q v bound
      → (start : List ℤ) (steps : List Step) (c : Config) → IsRun p start steps c → weighed p w start steps ≤ bound start
  below-sum w v bound h sum start steps c run =
      let l = ((simulation_keeps_bounds HasFacts).lifts p q o simulates).each start steps c run in
      let below = weighed-below p q o simulates.copies w start l.above l.end l.run in
      let most = weighed-at_most q (λ t env. w (o.rule t) env) v h start l.above l.end l.run in
      let all = sum.each start l.above l.end l.run in
      let above : weighed p w start (map (step_below o) l.above) ≤ bound start = omega (arith, below, most, all) in
      subst (λ (xs : List Step). weighed p w start xs ≤ bound start) l.steps_below above

  -- the charges at all copies of rule n charge each copy the form
  charged : (n : ℕ) (form : Polynomial) (t : ℕ) (r : Rule) (env : List ℤ) → rule_at q t ≡ Some r → o.rule t ≡ n
      → or_zero (polynomial_value form env) ≤ charges (charge_each form (copies_of q o n)) t env
  charged n form zero r env h below = absurd (none_some r h)
  charged n form (suc k) r env h below = copy-charged o n form env 1 q.rules k (suc k) r h (omega arith) below

  pub time-holds : (n : ℕ) (r : Rule) (b : Signed) → rule_at p n ≡ Some r
      → HoldsSum q (charges (charge_each one_form (copies_of q o n))) (signed_val b) → HoldsOf p (Time n b)
  time-holds n r b there sum = record {
    each = λ start steps c run.
        let counted = count-is p n (numbered-above p n r there) start steps in
        let most = below-sum (once_for n) (charges (charge_each one_form (copies_of q o n))) (signed_val b) weight sum
        start steps c run in
        omega (arith, counted, most);
  }
    where
      weight : (t : ℕ) (copy : Rule) (env : List ℤ) → rule_at q t ≡ Some copy
          → once_for n (o.rule t) env ≤ charges (charge_each one_form (copies_of q o n)) t env
      weight t copy env h = go (eqb_tells (o.rule t) n)
        where
          go : ((o.rule t == n) ≡ true) × (o.rule t ≡ n) ⊎ ((o.rule t == n) ≡ false) × (o.rule t ≢ n)
              → once_for n (o.rule t) env ≤ charges (charge_each one_form (copies_of q o n)) t env
          go (inl (test, e)) = rw test (charged n one_form t copy env h e)
          go (inr (test, other)) = rw test (omega arith)

  pub cost-holds : (n : ℕ) (r : Rule) (k : Term) (b : Signed) → rule_at p n ≡ Some r → r.cost ≡ Some k
      → HoldsSum q (charges (charge_each (expanded k) (copies_of q o n))) (signed_val b) → HoldsOf p (Cost n b)
  cost-holds n r k b there written sum = record {
    each = λ start steps c run.
        let paid = spent-is p n start steps in
        let most = below-sum (cost_for p n) (charges (charge_each (expanded k) (copies_of q o n))) (signed_val b) weight
        sum start steps c run in
        omega (arith, paid, most);
  }
    where
      weight : (t : ℕ) (copy : Rule) (env : List ℤ) → rule_at q t ≡ Some copy
          → cost_for p n (o.rule t) env ≤ charges (charge_each (expanded k) (copies_of q o n)) t env
      weight t copy env h = go (eqb_tells (o.rule t) n)
        where
          value-is : o.rule t ≡ n → cost_by (rule_at p (o.rule t)) env ≡ or_zero (polynomial_value (expanded k) env)
          value-is e =
              ap (λ (i : ℕ). cost_by (rule_at p i) env) e
              ∙ (ap (λ (x : Option Rule). cost_by x env) there
              ∙ (ap (λ (x : Option Term). cost_at x env) written ∙ ap or_zero (sym (expanded-value k env))))

          go : ((o.rule t == n) ≡ true) × (o.rule t ≡ n) ⊎ ((o.rule t == n) ≡ false) × (o.rule t ≢ n)
              → cost_for p n (o.rule t) env ≤ charges (charge_each (expanded k) (copies_of q o n)) t env
          go (inl (test, e)) =
              let value = value-is e in let all = charged n (expanded k) t copy env h e in rw test (omega (arith, value, all))
          go (inr (test, other)) = rw test (omega arith)

  pub total-holds : (b : Signed) → HoldsSum q (charges (cost_charges 1 q.rules)) (signed_val b) → HoldsOf p (Total b)
  total-holds b sum = record {
    each = λ start steps c run.
        let paid = spent-all-is p start steps in
        let most = below-sum (cost_of_each p) (charges (cost_charges 1 q.rules)) (signed_val b) weight sum start steps c
        run in
        omega (arith, paid, most);
  }
    where
      weight : (t : ℕ) (copy : Rule) (env : List ℤ) → rule_at q t ≡ Some copy
          → cost_of_each p (o.rule t) env ≤ charges (cost_charges 1 q.rules) t env
      weight zero copy env h = absurd (none_some copy h)
      weight (suc k) copy env h =
          let below = cost-below p q o simulates.copies (suc k) copy env h in
          let same : cost_by (rule_at q (suc k)) env ≡ cost_at copy.cost env = ap (λ (x : Option Rule). cost_by x env) h in
          let all = cost-charged 1 q.rules k (suc k) copy env h (omega arith) in
          omega (arith, below, same, all)

  -- the update of a copy at a place is that of the rule
  update-below : (n i : ℕ) (u : Term) (r : Rule) → rule_at p n ≡ Some r → slice_get r.updates i ≡ Some u → (t : ℕ)
      (copy : Rule) → rule_at q t ≡ Some copy → o.rule t ≡ n → HasUpdate q t i u
  update-below n i u r there at t copy h below =
      let b = simulates.copies t copy h in
      let same : b.rule ≡ r = some_same b.rule r (sym b.numbered ∙ (ap (rule_at p) below ∙ there)) in
      record {
        rule = copy;
        numbered = h;
        update = ap (λ (us : List Term). slice_get us i) (b.copies.updates ∙ ap (λ (x : Rule). x.updates) same) ∙ at;
      }

  -- laws for the value at a place after a run of q, or its negation: it is at most the bound of the claim
  module _ (within_holds : WithinHolds) (safe : IsSafe expands_to_squares) (n i : ℕ) (u : Term) (r : Rule)
      (ns : List ℕ) (bound : Signed) (there : rule_at p n ≡ Some r) (at : slice_get r.updates i ≡ Some u) where
    headed : (form : Polynomial)
        → are_heads_within facts form (suc i) bound (copies_of q o n) ns ≡ true → (t : ℕ) (copy : Rule)
        → rule_at q t ≡ Some copy → o.rule t ≡ n → HasHead q facts form (suc i) bound t
    headed form stated zero copy h below = absurd (none_some copy h)
    headed form stated (suc k) copy h below =
        copy-bounded q facts hold form (suc i) bound o n 1 q.rules ns stated k (suc k) copy h (omega arith) below

    above-end : (start : List ℤ) (s : Step) (earlier : List Step) (end : Config) → IsRun q start (s ∷ earlier) end
        → o.rule s.rule ≡ n → HasUpdate q s.rule i u → HasHead q facts (expanded u) (suc i) bound s.rule
        → place_value end (suc i) ≤ℤ pos (signed_val bound start)
    above-end start s earlier end (b, run, step) below has h =
        let most = within-above within_holds expands_to_squares safe h.own bound h.low start in go most h.why
      where
        go : signed_val h.own start ≤ signed_val bound start
            → (is_never facts s.rule ≡ true) ⊎ (HoldsSigned q (PeakFact s.rule (expanded u) h.own)
            ⊎ HoldsSigned q (SizeFact s.rule (suc i) h.own)) → place_value end (suc i) ≤ℤ pos (signed_val bound start)
        go most (inl never) =
            absurd (never-steps q s.rule facts hold never start b s end (record { earlier = earlier; run = run; step = step }) refl)
        go most (inr (inl peak)) =
            let low =
            facts_bound_runs.above q s.rule i u (expanded u) h.own has (record { each = expanded-value u }) peak start s
            earlier end (b, run, step) refl in
            omega (arith, ints, low, most)
        go most (inr (inr size)) =
            let low = up-to (place_value end (suc i)) (signed_val h.own start)
            (size.each start (s ∷ earlier) end (b, run, step) refl) in
            omega (arith, ints, low, most)

    below-end : (start : List ℤ) (s : Step) (earlier : List Step) (end : Config) → IsRun q start (s ∷ earlier) end
        → o.rule s.rule ≡ n → HasUpdate q s.rule i u
        → HasHead q facts (expanded (Negation u)) (suc i) bound s.rule
        → neg_ℤ (place_value end (suc i)) ≤ℤ pos (signed_val bound start)
    below-end start s earlier end (b, run, step) below has h =
        let most = within-above within_holds expands_to_squares safe h.own bound h.low start in go most h.why
      where
        go : signed_val h.own start ≤ signed_val bound start
            → (is_never facts s.rule ≡ true) ⊎ (HoldsSigned q (PeakFact s.rule (expanded (Negation u)) h.own)
            ⊎ HoldsSigned q (SizeFact s.rule (suc i) h.own))
            → neg_ℤ (place_value end (suc i)) ≤ℤ pos (signed_val bound start)
        go most (inl never) =
            absurd (never-steps q s.rule facts hold never start b s end (record { earlier = earlier; run = run; step = step }) refl)
        go most (inr (inl peak)) =
            let low =
            facts_bound_runs.below q s.rule i u (expanded (Negation u)) h.own has (λ env. expanded-value (Negation u) env)
            peak start s earlier end (b, run, step) refl in
            omega (arith, ints, low, most)
        go most (inr (inr size)) =
            let low = down-to (place_value end (suc i)) (signed_val h.own start)
            (size.each start (s ∷ earlier) end (b, run, step) refl) in
            omega (arith, ints, low, most)

    pub above-holds : are_heads_within facts (expanded u) (suc i) bound (copies_of q o n) ns ≡ true
        → HoldsOf p (Above n (suc i) bound)
    above-holds stated = record {
      each = λ start steps c run last.
          let l = ((simulation_keeps_bounds HasFacts).lifts p q o simulates).each start steps c run in
          let end = go start l.above l.end l.run (ap last_rule l.steps_below ∙ last) in
          subst (λ (z : ℤ). z ≤ℤ pos (signed_val bound start)) (ends-same o c l.end i l.end_below) end;
    }
      where
        go : (start : List ℤ) (steps : List Step) (end : Config) → IsRun q start steps end
            → last_rule (map (step_below o) steps) ≡ n → place_value end (suc i) ≤ℤ pos (signed_val bound start)
        go start [] end run last = absurd (numbered-above p n r there (sym last))
        go start (s ∷ earlier) end (b, run, step) last =
            above-end start s earlier end (b, run, step) last
            (update-below n i u r there at s.rule step.rule step.numbered last)
            (headed (expanded u) stated s.rule step.rule step.numbered last)

    pub below-holds : are_heads_within facts (expanded (Negation u)) (suc i) bound (copies_of q o n) ns ≡ true
        → HoldsOf p (Below n (suc i) bound)
    below-holds stated = record {
      each = λ start steps c run last.
          let l = ((simulation_keeps_bounds HasFacts).lifts p q o simulates).each start steps c run in
          let end = go start l.above l.end l.run (ap last_rule l.steps_below ∙ last) in
          subst (λ (z : ℤ). neg_ℤ z ≤ℤ pos (signed_val bound start)) (ends-same o c l.end i l.end_below) end;
    }
      where
        go : (start : List ℤ) (steps : List Step) (end : Config) → IsRun q start steps end
            → last_rule (map (step_below o) steps) ≡ n
            → neg_ℤ (place_value end (suc i)) ≤ℤ pos (signed_val bound start)
        go start [] end run last = absurd (numbered-above p n r there (sym last))
        go start (s ∷ earlier) end (b, run, step) last =
            below-end start s earlier end (b, run, step) last
            (update-below n i u r there at s.rule step.rule step.numbered last)
            (headed (expanded (Negation u)) stated s.rule step.rule step.numbered last)

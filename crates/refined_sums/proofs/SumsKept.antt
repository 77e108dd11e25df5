-- Sums and peaks carry over from a program that simulates another.
use Rattle.std.proofs.Common.{◌≡◌, ◌≤◌, ◌+◌, ℕ, List, [], ◌∷◌, ◌++◌, map, Some, refl, sym, ap, subst, ◌∙◌, arith}
use Rattle.std.specs.Prelude.{ℤ, pos, ◌≤ℤ◌, ◌==◌, if◌then◌else◌}
use Rattle.std.specs.List.{All}
use Rattle.std.proofs.lemmas.Int.{ints}
use Rattle.std.proofs.lemmas.List.Elements.{All-weaker, All-contains}
use Rattle.model.specs.Programs.{Program, Rule, rule_at}
use Rattle.model.specs.Runs.{Config, Step, IsRun}
use Rattle.model.specs.Spending.{cost, values_after}
use Rattle.refinement.specs.Lifted.{AllRunsLift, AreCopies}
use Rattle.refinement.specs.Sections.{HasFactsOf, projection_of, spelled}
use Rattle.refinement.specs.Simulation.{HasRuleBelow, Projection, step_below}
use Rattle.refinement.proofs.Bounds.{cost-below, values-below}
use Rattle.refinement.proofs.Lifting.{all_lift}
use Rattle.potentials.specs.Sums.{Charge, Weight, HoldsPeak, HoldsSum, charges, cost_for, cost_of_each, once, once_for}
use Rattle.potentials.specs.Sums.{variables_at, weighed}
use Rattle.program_claims.proofs.Weights.{weighed-at_most, weighed-below}
use Rattle.refined_sums.specs.Copies.{at_rule, charges_above, greatest_at, sum_at, weight_below}
use Rattle.refined_sums.specs.Laws.{SectionsKeepSums, SimulationKeepsSums, SumsAndPeaksAreKept}
use Rattle.refined_sums.proofs.CopySums.{charged-above, greatest-over, sum-within, weighed-copies}

-- a bound on a weight is one on what is at most as much at each rule
lighter : (q : Program) (v w : Weight) (bound : List ℤ → ℕ)
    → ((t : ℕ) (r : Rule) (env : List ℤ) → rule_at q t ≡ Some r → v t env ≤ w t env) → HoldsSum q w bound
    → HoldsSum q v bound
lighter q v w bound at_most h = record {
  each = λ start steps c run.
      let less = weighed-at_most q v w at_most start steps c run in
      let most = h.each start steps c run in
      omega (arith, less, most);
}

module _ (p q : Program) (o : Projection)
    (copies : (t : ℕ) (copy : Rule) → rule_at q t ≡ Some copy → HasRuleBelow p o t copy) (HasFacts : Config → Type 0)
    (lifts : AllRunsLift p q o HasFacts) where
  -- what the steps of a run weigh is what those above them do by the rules below them
  weights : (w : Weight) (bound : List ℤ → ℕ) → HoldsSum q (weight_below o w) bound → HoldsSum p w bound
  weights w bound h = record {
    each = λ start steps c run.
        let l = lifts.each start steps c run in
        let same = weighed-below p q o copies w start l.above l.end l.run in
        let most : weighed q (weight_below o w) start l.above ≤ bound start = h.each start l.above l.end l.run in
        let below : weighed p w start (map (step_below o) l.above) ≤ bound start = omega (arith, same, most) in
        subst (λ (steps : List Step). weighed p w start steps ≤ bound start) l.steps_below below;
  }

  -- the sum over the steps of a rule is at most the sum of the bounds on those over its copies
  sums : (n : ℕ) (ts : List ℕ) (w : Weight) (bound : ℕ → List ℤ → ℕ) → AreCopies q o n ts
      → All (λ t. HoldsSum q (at_rule t (weight_below o w)) (bound t)) ts → HoldsSum p (at_rule n w) (sum_at bound ts)
  sums n ts w bound all h =
      weights (at_rule n w) (sum_at bound ts) (record {
        each = λ start steps c run.
            let copied = weighed-copies q o n ts w all start steps c run in
            let within = sum-within (λ t. weighed q (at_rule t (weight_below o w)) start steps) bound start ts
            (All-weaker (λ t. HoldsSum q (at_rule t (weight_below o w)) (bound t))
            (λ t. weighed q (at_rule t (weight_below o w)) start steps ≤ bound t start)
            (λ t holds. holds.each start steps c run) ts h) in
            omega (arith, copied, within);
      })

  -- charges at rules come to at most what they come to at all copies of these
  goals : (above : ℕ → List ℕ) (goal : List Charge) (bound : List ℤ → ℕ)
      → All (λ c. AreCopies q o c.rule (above c.rule)) goal → HoldsSum q (charges (charges_above above goal)) bound
      → HoldsSum p (charges goal) bound
  goals above goal bound all h =
      weights (charges goal) bound
      (lighter q (weight_below o (charges goal)) (charges (charges_above above goal)) bound
      (charged-above q o above goal all) h)

  -- the last step of a run above has a rule below that is the last one below
  peak : (n : ℕ) (ts : List ℕ) (form : List ℤ → ℤ) (bound : ℕ → List ℤ → ℕ) → AreCopies q o n ts
      → All (λ t. HoldsPeak q t form (bound t)) ts → (start : List ℤ) (s : Step) (earlier above : List Step)
      (c : Config)
      → IsRun q start above c → map (step_below o) above ≡ s ∷ earlier → s.rule ≡ n
      → form (variables_at p start s earlier) ≤ℤ pos (greatest_at bound ts start)
  peak n ts form bound all h start s earlier [] c run e last = cc
  peak n ts form bound all h start s earlier (u ∷ us) c (b, run, step) e last =
      let first : step_below o u ≡ s = cc in
      let others : map (step_below o) us ≡ earlier = cc in
      let member = all.each u.rule step.rule step.numbered (ap (λ (x : Step). x.rule) first ∙ last) in
      let holds : HoldsPeak q u.rule form (bound u.rule) =
      All-contains (λ t. HoldsPeak q t form (bound t)) ts u.rule h member in
      let one = holds.each start u us c (b, run, step) refl in
      let most = greatest-over bound start ts u.rule member in
      let here : variables_at p start s earlier ≡ variables_at q start u us =
      ap (λ (x : Step). variables_at p start x earlier) (sym first)
      ∙ ap (λ (xs : List Step). values_after p start xs ++ u.free) (sym others)
      ∙ ap (λ (v : List ℤ). v ++ u.free) (values-below p q o copies start us b run) in
      subst (λ (v : List ℤ). form v ≤ℤ pos (greatest_at bound ts start)) (sym here) (omega (arith, ints, one, most))

  -- the peak at a rule is at most the greatest of those at its copies
  peaks : (n : ℕ) (ts : List ℕ) (form : List ℤ → ℤ) (bound : ℕ → List ℤ → ℕ) → AreCopies q o n ts
      → All (λ t. HoldsPeak q t form (bound t)) ts → HoldsPeak p n form (greatest_at bound ts)
  peaks n ts form bound all h = record {
    each = λ start s earlier c run last.
        let l = lifts.each start (s ∷ earlier) c run in
        peak n ts form bound all h start s earlier l.above l.end l.run l.steps_below last;
  }

  -- so it is with how often a rule occurs
  times : (n : ℕ) (ts : List ℕ) (bound : ℕ → List ℤ → ℕ) → AreCopies q o n ts
      → All (λ t. HoldsSum q (once_for t) (bound t)) ts → HoldsSum p (once_for n) (sum_at bound ts)
  times n ts bound all h =
      lighter p (once_for n) (at_rule n once) (sum_at bound ts) (λ t r env there. omega arith)
      (sums n ts once bound all
      (All-weaker (λ t. HoldsSum q (once_for t) (bound t)) (λ t. HoldsSum q (at_rule t (weight_below o once)) (bound t))
      (λ t holds. lighter q (at_rule t (weight_below o once)) (once_for t) (bound t)
      (λ u r env there. omega arith) holds) ts h))

  -- a step costs what the step below it costs
  cost-of_below : (t : ℕ) (r : Rule) (env : List ℤ) → rule_at q t ≡ Some r → cost p (o.rule t) env ≡ cost q t env
  cost-of_below t r env there = cost-below p q o copies t r env there

  -- and with what its steps cost
  costs : (n : ℕ) (ts : List ℕ) (bound : ℕ → List ℤ → ℕ) → AreCopies q o n ts
      → All (λ t. HoldsSum q (cost_for q t) (bound t)) ts → HoldsSum p (cost_for p n) (sum_at bound ts)
  costs n ts bound all h =
      lighter p (cost_for p n) (at_rule n (cost_of_each p)) (sum_at bound ts) (λ t r env there. omega arith)
      (sums n ts (cost_of_each p) bound all
      (All-weaker (λ t. HoldsSum q (cost_for q t) (bound t))
      (λ t. HoldsSum q (at_rule t (weight_below o (cost_of_each p))) (bound t))
      (λ t holds. lighter q (at_rule t (weight_below o (cost_of_each p))) (cost_for q t) (bound t)
      (λ u r env there. let same = cost-of_below u r env there in
      let e : at_rule t (weight_below o (cost_of_each p)) u env ≡ cost_for q t u env =
      ap (λ (k : ℕ). if u == t then k else 0) same in omega (arith, e)) holds) ts h))

  -- sums and peaks are kept by lifting each run
  pub sums_kept : SumsAndPeaksAreKept p q o
  sums_kept = record {
    weights = weights;
    sums = sums;
    goals = goals;
    peaks = peaks;
    times = times;
    costs = costs;
    lengths = λ bound h. weights once bound (lighter q (weight_below o once) once bound
        (λ t r env there. omega arith) h);
    totals = λ bound h. weights (cost_of_each p) bound (lighter q (weight_below o (cost_of_each p))
        (cost_of_each q) bound
        (λ t r env there. let same = cost-of_below t r env there in omega (arith, same)) h);
  }

-- a program that simulates another keeps its sums
pub simulations_keep_sums : (HasFacts : Config → Type 0) → SimulationKeepsSums HasFacts
simulations_keep_sums HasFacts = record {
  kept = λ p q o h. sums_kept p q o h.copies HasFacts (all_lift p q o HasFacts h);
}

-- so does the program that a section spells
pub sections_keep_sums : SectionsKeepSums
sections_keep_sums = record {
  kept = λ p section spells. sums_kept p (spelled p section) (projection_of p section) spells.simulates.copies
      (HasFactsOf section) spells.lifts;
}

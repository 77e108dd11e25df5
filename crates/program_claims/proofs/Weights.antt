-- Weights of the steps of a run, and of the steps below them.
use Rattle.std.proofs.Common.{◌≡◌, ◌≤◌, ◌+◌, ℕ, List, [], ◌∷◌, ◌++◌, map, Some, refl, ap, ◌∙◌, arith}
use Rattle.std.specs.Prelude.{ℤ}
use Rattle.model.specs.Programs.{Program, Rule, rule_at}
use Rattle.model.specs.Runs.{Config, Step, IsRun}
use Rattle.model.specs.Spending.{values_after}
use Rattle.refinement.specs.Simulation.{Projection, step_below, HasRuleBelow}
use Rattle.refinement.proofs.Bounds.{values-below}
use Rattle.potentials.specs.Sums.{Weight, weighed, variables_at}

-- if a weight is at most another at each rule of a program, so are the sums over a run
pub weighed-at_most : (q : Program) (v w : Weight)
    → ((t : ℕ) (r : Rule) (env : List ℤ) → rule_at q t ≡ Some r → v t env ≤ w t env) → (start : List ℤ)
    (steps : List Step) (c : Config) → IsRun q start steps c → weighed q v start steps ≤ weighed q w start steps
weighed-at_most q v w h start [] c run = omega arith
weighed-at_most q v w h start (s ∷ earlier) c (b, run, step) =
    let first = h s.rule step.rule (variables_at q start s earlier) step.numbered in
    let others = weighed-at_most q v w h start earlier b run in
    omega (arith, first, others)

module _ (p q : Program) (o : Projection)
    (copies : (t : ℕ) (copy : Rule) → rule_at q t ≡ Some copy → HasRuleBelow p o t copy) where
  -- the sum of a weight over the steps below those of a run is the sum of the weights of the rules below
  pub weighed-below : (w : Weight) (start : List ℤ) (steps : List Step) (c : Config) → IsRun q start steps c
      → weighed p w start (map (step_below o) steps) ≡ weighed q (λ t env. w (o.rule t) env) start steps
  weighed-below w start [] c run = refl
  weighed-below w start (s ∷ earlier) c (b, run, step) =
      let values = values-below p q o copies start earlier b run in
      let others = weighed-below w start earlier b run in
      ap (λ (v : List ℤ). w (o.rule s.rule) (v ++ s.free) + weighed p w start (map (step_below o) earlier)) values
      ∙ ap (λ (n : ℕ). w (o.rule s.rule) (values_after q start earlier ++ s.free) + n) others

-- A step has no fault in a replay exactly if it is a step and no value of it or of its cost exceeds 128 bits.
use Rattle.std.proofs.Common.{◌≡◌, List, ◌++◌, length, map, ℤ, Option, Some, None, refl, sym, ◌∙◌, ap, subst}
use Rattle.its_model.specs.model.Terms.{value}
use Rattle.its_model.specs.model.Programs.{Program, Rule, rule_at}
use Rattle.its_model.specs.model.Runs.{Config, Step, IsStep}
use Rattle.its_model.specs.Costs.{CostFits, cost_fault, HasFittingCost, CostsHaveNoFault}
use Rattle.its_model.specs.Steps.{StepFault, RuleFits, first_of, step_fault, StepsHaveNoFault}
use Rattle.run_replay.specs.Replays.{replay_fault}

-- a step by a rule, from a configuration with a value for each left variable, has no fault in a replay exactly if it is
-- a step and no value of its guard, updates and cost exceeds 128 bits
pub record ReplayStepsHaveNoFault : Type 0 where
  pub step : (p : Program) (c : Config) (s : Step) (r : Rule) → rule_at p s.rule ≡ Some r → length c.values ≡ r.left
      → replay_fault p c s ≡ None
      → IsStep p c s (record { at = r.target; values = map (λ u. value u (c.values ++ s.free)) r.updates })
  pub fits : (p : Program) (c : Config) (s : Step) (r : Rule) → rule_at p s.rule ≡ Some r → replay_fault p c s ≡ None
      → RuleFits r (c.values ++ s.free)
  pub cost_fits : (p : Program) (c : Config) (s : Step) (r : Rule) → rule_at p s.rule ≡ Some r
      → replay_fault p c s ≡ None → CostFits (c.values ++ s.free) r.cost
  pub no_fault : (p : Program) (c d : Config) (s : Step) (r : Rule) → rule_at p s.rule ≡ Some r → IsStep p c s d
      → RuleFits r (c.values ++ s.free) → CostFits (c.values ++ s.free) r.cost → replay_fault p c s ≡ None

-- of two faults there is no first one exactly if there is neither
pub neither_fault : (f g : Option StepFault) → first_of f g ≡ None → (f ≡ None) × (g ≡ None)
neither_fault None g e = (refl, e)
neither_fault (Some f) g e = cc

pub no_first : (f g : Option StepFault) → f ≡ None → g ≡ None → first_of f g ≡ None
no_first None g e h = h
no_first (Some f) g e h = cc

-- the first of two faults is the first one if it exists, and else the second
pub first_there : (f g : Option StepFault) (x : StepFault) → f ≡ Some x → first_of f g ≡ Some x
first_there None g x e = cc
first_there (Some f) g x e = e

pub second_there : (f g : Option StepFault) (x : StepFault) → f ≡ None → g ≡ Some x → first_of f g ≡ Some x
second_there None g x e h = h
second_there (Some f) g x e h = cc

-- this law follows from the laws of single steps and of their costs
pub replay_steps : StepsHaveNoFault → CostsHaveNoFault → ReplayStepsHaveNoFault
replay_steps steps costs = record {
  step = λ p c s r e left none. steps.step p c s r e left (neither_fault (step_fault p c s) (cost_fault p c s) none).0;
  fits = λ p c s r e none. steps.fits p c s r e (neither_fault (step_fault p c s) (cost_fault p c s) none).0;
  cost_fits = λ p c s r e none.
      let h = (costs.no_fault p c s).0 (neither_fault (step_fault p c s) (cost_fault p c s) none).1 in
      let same : h.rule ≡ r = one_rule (sym h.numbered ∙ e) in
      subst (λ (q : Rule). CostFits (c.values ++ s.free) q.cost) same h.fits;
  no_fault = λ p c d s r e step fits cost.
      let same : r ≡ step.rule = one_rule (sym e ∙ step.numbered) in
      no_first (step_fault p c s) (cost_fault p c s) (steps.no_fault p c d s r e step fits)
      ((costs.no_fault p c s).1 (record {
        rule = step.rule;
        numbered = step.numbered;
        source = step.leads.source;
        free_ones = step.leads.free_ones;
        fits = subst (λ (q : Rule). CostFits (c.values ++ s.free) q.cost) same cost;
      }));
}
  where
    one_rule : {q r : Rule} → Some q ≡ Some r → q ≡ r
    one_rule e = cc

-- Why a use of a rule has no cost in 128 bits, and which reason comes first.
use Rattle.std.specs.Prelude.{◌≡◌, ◌↔◌, ◌&&◌, if◌then◌else◌, nat_eq, true, List, ◌++◌, length, ℤ, Option, Some, None, ⊤}
use Rattle.poly_terms.specs.model.Terms.{Term}
use Rattle.poly_terms.specs.model.Programs.{Rule, Program, rule_at}
use Rattle.poly_terms.specs.model.Runs.{Config, Step}
use Rattle.poly_terms.specs.Checked.{values_fit}
use Rattle.its_model.specs.Steps.{StepFault, OtherRule, PastRange, step_fault}

-- The fault of a written cost: some value of it exceeds 128 bits.
abbrev pub written_fault : Option Term → List ℤ → Option StepFault
written_fault None env = None
written_fault (Some c) env = if values_fit c env then None else Some PastRange

-- The fault of the cost of a use of a rule; whether the guard holds doesn't matter.
abbrev pub rule_cost_fault : Rule → Config → List ℤ → Option StepFault
rule_cost_fault r c free =
    if nat_eq c.at r.source && nat_eq (length free) r.free
    then written_fault r.cost (c.values ++ free)
    else Some OtherRule

-- The fault of the cost of a use of a rule that may not exist.
abbrev pub found_cost_fault : Option Rule → Config → List ℤ → Option StepFault
found_cost_fault None c free = Some OtherRule
found_cost_fault (Some r) c free = rule_cost_fault r c free

-- The fault of the cost of a step of a program from a configuration.
abbrev pub cost_fault : Program → Config → Step → Option StepFault
cost_fault p c s = found_cost_fault (rule_at p s.rule) c s.free

-- No value of a cost exceeds 128 bits.
abbrev pub CostFits : List ℤ → Option Term → Type 0
CostFits env None = ⊤
CostFits env (Some c) = values_fit c env ≡ true

-- The rule exists, leaves the configuration's symbol, has this many free variables, and no value of its cost exceeds
-- 128 bits.
pub record HasFittingCost (p : Program) (c : Config) (s : Step) : Type 0 where
  pub rule : Rule
  pub numbered : rule_at p s.rule ≡ Some rule
  pub source : c.at ≡ rule.source
  pub free_ones : length s.free ≡ rule.free
  pub fits : CostFits (c.values ++ s.free) rule.cost

-- The cost of a use of a rule has no fault exactly if the use is one of the rule and its cost fits; and the use is none
-- of the rule exactly if it would be none as a step.
pub record CostsHaveNoFault : Type 0 where
  pub no_fault : (p : Program) (c : Config) (s : Step) → (cost_fault p c s ≡ None) ↔ HasFittingCost p c s
  pub other_rule : (p : Program) (c : Config) (s : Step) → (cost_fault p c s ≡ Some OtherRule)
      ↔ (step_fault p c s ≡ Some OtherRule)

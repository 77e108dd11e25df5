-- Replaying a run: whether its steps and their costs are a run of the program within 128 bits, the first bad step, and
-- the tally.
use Rattle.std.specs.Prelude.{◌≡◌, ◌⊎◌, ◌≤◌, ℕ, suc, max, if◌then◌else◌, ◌==◌, List, [], ◌∷◌, ◌++◌, length, map, ℤ}
use Rattle.std.specs.Prelude.{nat_abs, Option, Some, None, ⊤}
use Rattle.std.specs.List.{range_with_len}
use Rattle.its_model.specs.model.Programs.{Program, Rule, rule_at}
use Rattle.its_model.specs.model.Runs.{Config, Step, IsRun, count, last_rule, place_value}
use Rattle.its_model.specs.model.Spending.{values_after, spent, spent_all}
use Rattle.its_model.specs.Costs.{CostFits, cost_fault}
use Rattle.its_model.specs.Steps.{StepFault, RuleFits, first_of, step_fault}
use Rattle.bound_expr.specs.Capped.{capped}

-- the first fault of a step in a replay: why it isn't a step within 128 bits or, if it is one, a value of its cost that
-- exceeds 128 bits
abbrev pub replay_fault : Program → Config → Step → Option StepFault
replay_fault p c s = first_of (step_fault p c s) (cost_fault p c s)

-- no value of the step's guard, updates and cost exceeds 128 bits, at the values to which the earlier steps lead
pub record StepFits (p : Program) (start : List ℤ) (s : Step) (earlier : List Step) : Type 0 where
  pub each : (r : Rule) → rule_at p s.rule ≡ Some r → RuleFits r (values_after p start earlier ++ s.free)
  pub cost : (r : Rule) → rule_at p s.rule ≡ Some r → CostFits (values_after p start earlier ++ s.free) r.cost

-- no value of any step exceeds 128 bits; last step first
abbrev pub StepsFit : Program → List ℤ → List Step → Type 0
StepsFit p start [] = ⊤
StepsFit p start (s ∷ earlier) = StepsFit p start earlier × StepFits p start s earlier

-- the steps, last step first, are a run of the program from these start values to c, and no value along it exceeds 128
-- bits
pub record RunsInRange (p : Program) (start : List ℤ) (steps : List Step) (c : Config) : Type 0 where
  pub run : IsRun p start steps c
  pub fit : StepsFit p start steps

-- the steps are a run from these start values to some configuration, and no value along it exceeds 128 bits
abbrev pub IsRunInRange : Program → List ℤ → List Step → Type 0
IsRunInRange p start steps = (c : Config) × RunsInRange p start steps c

-- the number of a step, from 1, and its fault
pub record BadStep : Type 0 where
  pub number : ℕ
  pub fault : StepFault

-- this is the first bad step of the steps, last step first: the steps before it are a run in range, and at the
-- configuration that they reach it has this fault
pub record IsFirstBadStep (p : Program) (start : List ℤ) (steps : List Step) (bad : BadStep) : Type 0 where
  pub later : List Step
  pub step : Step
  pub earlier : List Step
  pub order : steps ≡ later ++ step ∷ earlier
  pub number : bad.number ≡ suc (length earlier)
  pub end : Config
  pub runs : RunsInRange p start earlier end
  pub fault : replay_fault p end step ≡ Some bad.fault

-- the absolute value at a place, numbered from 1, after steps
abbrev pub size_after : Program → List ℤ → ℕ → List Step → ℕ
size_after p start i steps = nat_abs (place_value (record { at = 0; values = values_after p start steps }) i)

-- the greatest absolute value at a place after a rule, along steps, last step first; 0 if the rule doesn't occur
abbrev pub greatest_size : Program → List ℤ → ℕ → ℕ → List Step → ℕ
greatest_size p start t i [] = 0
greatest_size p start t i (s ∷ earlier) =
    max (greatest_size p start t i earlier) (if s.rule == t then size_after p start i (s ∷ earlier) else 0)

-- the numbers of the rules
abbrev pub rule_numbers : Program → List ℕ
rule_numbers p = range_with_len 1 (length p.rules)

-- the number of places of a rule's target
abbrev pub places_reached : Option Rule → ℕ
places_reached None = 0
places_reached (Some r) = length r.updates

-- the numbers of the places of the target of the rule with a number
abbrev pub place_numbers : Program → ℕ → List ℕ
place_numbers p t = range_with_len 1 (places_reached (rule_at p t))

-- the greatest absolute values at each place after a rule
abbrev pub greatest_sizes : Program → List ℤ → List Step → ℕ → List ℕ
greatest_sizes p start steps t = map (λ i. greatest_size p start t i steps) (place_numbers p t)

-- the tally: the number of steps, how often each rule occurs, the greatest absolute values after each rule, the cost of
-- all steps by each rule together, and the cost of all steps together, each of the costs up to 2^127
pub record Sums : Type 0 where
  pub steps : ℕ
  pub counts : List ℕ
  pub greatest : List (List ℕ)
  pub costs : List ℕ
  pub spent : ℕ

-- the tally along steps, last step first
abbrev pub tally_along : Program → List ℤ → List Step → Sums
tally_along p start steps = record {
  steps = length steps;
  counts = map (λ t. count t steps) (rule_numbers p);
  greatest = map (greatest_sizes p start steps) (rule_numbers p);
  costs = map (λ t. capped (spent p t start steps)) (rule_numbers p);
  spent = capped (spent_all p start steps);
}

-- a prefix of the steps (last step first) that ends with the rule leads to this absolute value at the place
pub record IsSizeAfter (p : Program) (start : List ℤ) (steps : List Step) (t i n : ℕ) : Type 0 where
  pub later : List Step
  pub earlier : List Step
  pub order : steps ≡ later ++ earlier
  pub end : Config
  pub run : IsRun p start earlier end
  pub last : last_rule earlier ≡ t
  pub size : nat_abs (place_value end i) ≡ n

-- a number is the greatest absolute value at a place after a rule, along a run: no prefix that ends with the rule leads
-- to a greater one, and one of them leads to it; or the rule doesn't occur and the number is 0
pub record IsGreatest (p : Program) (start : List ℤ) (steps : List Step) (t i n : ℕ) : Type 0 where
  pub most : (m : ℕ) → IsSizeAfter p start steps t i m → m ≤ n
  pub reached : IsSizeAfter p start steps t i n ⊎ ((count t steps ≡ 0) × (n ≡ 0))

-- Facts about all runs: bounds on sums of weights of steps, and on a form at each step.
use Rattle.std.specs.Prelude.{◌≡◌, ◌≢◌, ℕ, ◌+◌, ◌≤◌, List, [], ◌∷◌, ◌++◌, length, ℤ, pos, ◌≤ℤ◌, if◌then◌else◌, ◌==◌}
use Rattle.run_counting.specs.model.Programs.{Program}
use Rattle.run_counting.specs.model.Polynomials.{Polynomial, polynomial_value}
use Rattle.run_counting.specs.model.Runs.{Config, Step, IsRun, count, sizes_of_start}
use Rattle.run_counting.specs.model.Spending.{or_zero, values_after, cost, spent, spent_all}
use Rattle.run_counting.specs.model.Bounds.{Bound, val}
use Rattle.run_counting.specs.model.Facts.{HoldsTime, HoldsLength, HoldsCost, HoldsTotal}

-- the values of the variables of a step after earlier steps: those of its configuration, then its free values
abbrev pub variables_at : Program → List ℤ → Step → List Step → List ℤ
variables_at p start s earlier = values_after p start earlier ++ s.free

-- a weight: for a step by the rule with a number, at these values of its variables, a number
abbrev pub Weight : Type 0
Weight = ℕ → List ℤ → ℕ

-- the sum of the weights of the steps of a run
abbrev pub weighed : Program → Weight → List ℤ → List Step → ℕ
weighed p w start [] = 0
weighed p w start (s ∷ earlier) = w s.rule (variables_at p start s earlier) + weighed p w start earlier

-- in every run the sum of the steps' weights is at most the bound at the start values
pub record HoldsSum (p : Program) (w : Weight) (bound : List ℤ → ℕ) : Type 0 where
  pub each : (start : List ℤ) (steps : List Step) (c : Config) → IsRun p start steps c
      → weighed p w start steps ≤ bound start

-- at every step by the rule, in every run, the form of the step's variables is at most the bound at the start values
pub record HoldsPeak (p : Program) (rule : ℕ) (form : List ℤ → ℤ) (bound : List ℤ → ℕ) : Type 0 where
  pub each : (start : List ℤ) (s : Step) (earlier : List Step) (c : Config) → IsRun p start (s ∷ earlier) c
      → s.rule ≡ rule → form (variables_at p start s earlier) ≤ℤ pos (bound start)

-- a charge: a polynomial over the variables of a rule, of which the positive part counts
pub record Charge : Type 0 where
  pub rule : ℕ
  pub form : Polynomial

-- the charge of a step by rule t at these values of its variables
abbrev pub charge_at : Charge → Weight
charge_at c t env = if c.rule == t then or_zero (polynomial_value c.form env) else 0

-- the weight that adds up these charges
abbrev pub charges : List Charge → Weight
charges [] t env = 0
charges (c ∷ cs) t env = charge_at c t env + charges cs t env

-- weights: 1 for each step by the rule, and 0 for others; 1 for each step; the cost of each step by the rule, and 0 for
-- others; and the cost of each step
abbrev pub once_for : ℕ → Weight
once_for rule t env = if t == rule then 1 else 0

abbrev pub once : Weight
once t env = 1

abbrev pub cost_for : Program → ℕ → Weight
cost_for p rule t env = if t == rule then cost p t env else 0

abbrev pub cost_of_each : Program → Weight
cost_of_each p t env = cost p t env

-- a bound over the absolute start values, as a number for each list of start values
abbrev pub bound_at : Bound → List ℤ → ℕ
bound_at b start = val b (sizes_of_start start)

-- the sum of the weight 1 of a rule is how often it occurs, that of the weight 1 of every rule is the length of the
-- run, that of the cost of a rule's steps is the rule's spending, and that of the cost of each step is the spending of
-- all steps; so bounds on these sums are the facts on times, lengths, costs of a rule and total costs
pub record AllSumsSay : Type 0 where
  pub count_is : (p : Program) (rule : ℕ) → rule ≢ 0 → (start : List ℤ) (steps : List Step)
      → weighed p (once_for rule) start steps ≡ count rule steps
  pub length_is : (p : Program) (start : List ℤ) (steps : List Step) → weighed p once start steps ≡ length steps
  pub spent_is : (p : Program) (rule : ℕ) (start : List ℤ) (steps : List Step)
      → weighed p (cost_for p rule) start steps ≡ spent p rule start steps
  pub spent_all_is : (p : Program) (start : List ℤ) (steps : List Step)
      → weighed p (cost_of_each p) start steps ≡ spent_all p start steps
  pub times : (p : Program) (rule : ℕ) (b : Bound) → rule ≢ 0 → HoldsSum p (once_for rule) (bound_at b)
      → HoldsTime p rule b
  pub sums : (p : Program) (rule : ℕ) (b : Bound) → rule ≢ 0 → HoldsTime p rule b
      → HoldsSum p (once_for rule) (bound_at b)
  pub lengths : (p : Program) (b : Bound) → HoldsSum p once (bound_at b) → HoldsLength p b
  pub costs : (p : Program) (rule : ℕ) (b : Bound) → HoldsSum p (cost_for p rule) (bound_at b) → HoldsCost p rule b
  pub totals : (p : Program) (b : Bound) → HoldsSum p (cost_of_each p) (bound_at b) → HoldsTotal p b

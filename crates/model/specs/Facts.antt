-- The facts that the analysis states, and when such a fact holds on all runs.
use Rattle.std.specs.Prelude.{◌≡◌, ℕ, ◌≤◌, List, length, ℤ, nat_abs}
use Rattle.model.specs.Programs.{Program}
use Rattle.model.specs.Runs.{Config, Step, IsRun, count, last_rule, place_value, sizes_of_start}
use Rattle.model.specs.Spending.{spent, spent_all}
use Rattle.model.specs.Bounds.{Bound, val}

-- a fact: a bound on how often a rule occurs, on the absolute value at a place after a rule, or on the cost of all
-- steps by a rule together
pub data Fact : Type 0 where
  Time : ℕ → Bound → Fact
  Size : ℕ → ℕ → Bound → Fact
  Cost : ℕ → Bound → Fact

-- in every run, from any start values and by any choice of rules, the rule occurs at most as often as the bound's value
pub record HoldsTime (p : Program) (rule : ℕ) (bound : Bound) : Type 0 where
  pub each : (start : List ℤ) (steps : List Step) (c : Config) → IsRun p start steps c
      → count rule steps ≤ val bound (sizes_of_start start)

-- After every run whose last step is by the rule, the absolute value of the argument is at most the bound's value. For
-- the virtual entry, this concerns the runs without a step.
pub record HoldsSize (p : Program) (rule place : ℕ) (bound : Bound) : Type 0 where
  pub each : (start : List ℤ) (steps : List Step) (c : Config) → IsRun p start steps c → last_rule steps ≡ rule
      → nat_abs (place_value c place) ≤ val bound (sizes_of_start start)

-- in every run, from any start values and by any choice of rules, the steps by the rule together cost at most the
-- bound's value
pub record HoldsCost (p : Program) (rule : ℕ) (bound : Bound) : Type 0 where
  pub each : (start : List ℤ) (steps : List Step) (c : Config) → IsRun p start steps c
      → spent p rule start steps ≤ val bound (sizes_of_start start)

-- in every run, from any start values and by any choice of rules, all steps together cost at most the bound's value
pub record HoldsTotal (p : Program) (bound : Bound) : Type 0 where
  pub each : (start : List ℤ) (steps : List Step) (c : Config) → IsRun p start steps c
      → spent_all p start steps ≤ val bound (sizes_of_start start)

-- every run, from any start values and by any choice of rules, has at most as many steps as the bound's value
pub record HoldsLength (p : Program) (bound : Bound) : Type 0 where
  pub each : (start : List ℤ) (steps : List Step) (c : Config) → IsRun p start steps c
      → length steps ≤ val bound (sizes_of_start start)

-- a fact holds on all runs of the program
abbrev pub Holds : Program → Fact → Type 0
Holds p (Time t b) = HoldsTime p t b
Holds p (Size t i b) = HoldsSize p t i b
Holds p (Cost t b) = HoldsCost p t b

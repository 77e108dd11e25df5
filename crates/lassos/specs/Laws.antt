-- The laws of lassos: the turn can be repeated without end, so no runtime bound of its rules holds.
use Rattle.std.specs.Prelude.{ℕ, suc, ◌+◌, ◌≤◌, List, ◌++◌, ℤ}
use Rattle.model.specs.Programs.{Program}
use Rattle.model.specs.Runs.{Config, Step}
use Rattle.model.specs.Spending.{spent_all}
use Rattle.model.specs.Bounds.{Bound}
use Rattle.model.specs.Facts.{HoldsTime, HoldsTotal}
use Rattle.lassos.specs.Lassos.{Endless, IsUsed, LeadsTo, GoesRound, GoesOnFor, moved_config}

-- each rule of the turn of a lasso occurs arbitrarily often
pub record LassosAreEndless : Type 0 where
  pub round : (p : Program) (start : List ℤ) (stem turn : List Step) (at : Config) → GoesRound p start stem turn at
      → (t : ℕ) → IsUsed t turn → Endless p start t
  pub on : (p : Program) (start : List ℤ) (stem turn : List Step) (at : Config) (ds : List ℤ)
      → GoesOnFor p start stem turn at ds → (t : ℕ) → IsUsed t turn → Endless p start t

-- no runtime bound holds of a rule that occurs arbitrarily often
pub record EndlessRulesHaveNoTime : Type 0 where
  pub each : (p : Program) (start : List ℤ) (t : ℕ) → Endless p start t → (bound : Bound) → ¬ (HoldsTime p t bound)

-- if the turn of a lasso costs something, no bound on the cost of all steps holds
pub record CostlyTurnsHaveNoTotal : Type 0 where
  pub round : (p : Program) (start : List ℤ) (stem turn : List Step) (at : Config) → GoesRound p start stem turn at
      → 1 + spent_all p start stem ≤ spent_all p start (turn ++ stem) → (bound : Bound) → ¬ (HoldsTotal p bound)
  -- a turn that moves on has to cost something each time
  pub on : (p : Program) (start : List ℤ) (stem turn : List Step) (at : Config) (ds : List ℤ)
      → GoesOnFor p start stem turn at ds → ((n : ℕ) → 1 ≤ spent_all p (moved_config at ds n).values turn)
      → (bound : Bound) → ¬ (HoldsTotal p bound)

-- a turn that moves on leads from the configuration after any number of moves to that after one more
pub record MovedTurnsLead : Type 0 where
  pub each : (p : Program) (start : List ℤ) (stem turn : List Step) (at : Config) (ds : List ℤ)
      → GoesOnFor p start stem turn at ds → (n : ℕ) → LeadsTo p (moved_config at ds n) turn (moved_config at ds (suc n))

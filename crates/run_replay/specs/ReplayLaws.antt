-- Laws of all replays.
use Rattle.std.specs.Prelude.{◌≡◌, ◌⊎◌, ◌<◌, ℕ, List, length, ℤ}
use Rattle.its_model.specs.model.Programs.{Program, arity_of}
use Rattle.its_model.specs.model.Runs.{Step}
use Rattle.its_model.specs.Valid.{IsValid}
use Rattle.run_replay.specs.Replays.{IsRunInRange, BadStep, IsFirstBadStep, greatest_size, IsGreatest}

-- A run in range has no bad step, and steps have at most one first bad step. In a valid program, with a start value for
-- each place, steps are a run in range or have a first bad step. The greatest absolute value at a place after a rule in
-- the tally is the greatest one along the run.
pub record ReplaysAreDecided : Type 0 where
  pub none_bad : (p : Program) (start : List ℤ) (steps : List Step) (bad : BadStep) → IsRunInRange p start steps
      → ¬ (IsFirstBadStep p start steps bad)
  pub one_bad : (p : Program) (start : List ℤ) (steps : List Step) (a b : BadStep) → IsFirstBadStep p start steps a
      → IsFirstBadStep p start steps b → a ≡ b
  pub some : (p : Program) (start : List ℤ) (steps : List Step) → IsValid p → length start ≡ arity_of p p.start
      → IsRunInRange p start steps ⊎ ((bad : BadStep) × IsFirstBadStep p start steps bad)
  pub greatest : (p : Program) (start : List ℤ) (steps : List Step) (t i : ℕ) → 0 < t → IsRunInRange p start steps
      → IsGreatest p start steps t i (greatest_size p start t i steps)

-- Run files, and their limits.
use Rattle.std.specs.Prelude.{ℕ, ℤ, List}
use Rattle.its_model.specs.model.Runs.{Step}

-- start values, and steps in order
pub record Run : Type 0 where
  pub start : List ℤ
  pub steps : List Step

-- the maximum number of steps that are read
abbrev pub step_limit : ℕ
step_limit = 1000000

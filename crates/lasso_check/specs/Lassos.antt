-- Lasso files, and the run along both parts of one.
use Rattle.std.specs.Prelude.{◌++◌, ℤ, List, reverse}
use Rattle.its_model.specs.model.Runs.{Step}
use Rattle.run_replay.specs.Runs.{Run}

-- start values, the steps of the stem, and those of the turn, both in order
pub record Lasso : Type 0 where
  pub start : List ℤ
  pub stem : List Step
  pub turn : List Step

-- the steps of the stem, the last one first
abbrev pub stem_back : Lasso → List Step
stem_back l = reverse l.stem

-- the steps of the turn, the last one first
abbrev pub turn_back : Lasso → List Step
turn_back l = reverse l.turn

-- the run along both parts
abbrev pub run_along : Lasso → Run
run_along l = record { start = l.start; steps = l.stem ++ l.turn }

-- the steps of both parts, the last one first
abbrev pub both_back : Lasso → List Step
both_back l = reverse (l.stem ++ l.turn)

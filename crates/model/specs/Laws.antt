-- Laws of runs.
use Rattle.std.specs.Prelude.{◌≡◌, List, ℤ}
use Rattle.model.specs.Programs.{Program}
use Rattle.model.specs.Runs.{Config, Step, IsRun, count}

-- start values and steps determine the configuration that a run reaches
abbrev pub RunsAreDetermined : Type 0
RunsAreDetermined = (p : Program) (start : List ℤ) (steps : List Step) (c d : Config) → IsRun p start steps c
    → IsRun p start steps d → c ≡ d

-- in every run the virtual entry, rule 0, occurs once
abbrev pub EntryOccursOnce : Type 0
EntryOccursOnce = (p : Program) (start : List ℤ) (steps : List Step) (c : Config) → IsRun p start steps c
    → count 0 steps ≡ 1

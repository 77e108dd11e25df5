-- How the runs of a while program's translation bound its executions.
use Rattle.std.specs.Prelude.{◌≡◌, ◌↔◌, ℕ, ◌≤◌, List, length, ℤ}
use Rattle.while_text.specs.model.Bounds.{Bound, val}
use Rattle.while_text.specs.model.Programs.{Program}
use Rattle.while_text.specs.model.Runs.{sizes_of_start}
use Rattle.while_text.specs.while_model.Executions.{EndsWith}
use Rattle.while_text.specs.while_model.Laws.{RunEndsWith}
use Rattle.while_text.specs.while_model.Translation.{program_of}
use Rattle.while_text.specs.Reading.{Source}

-- The integer transition system of a program.
abbrev pub translation_of : Source → Program
translation_of source = program_of source.names source.program

-- From a value for each input, some execution of n steps ends with given values exactly if some run of n steps of the
-- translation does.
pub record EndsAsRuns (source : Source) : Type 0 where
  pub each : (start : List ℤ) → length start ≡ length source.names → (n : ℕ) (end : List ℤ)
      → EndsWith source.program start n end ↔ RunEndsWith (translation_of source) start n end

-- Each execution from a value for each input has at most as many steps as the bound.
pub record HasStepsWithin (source : Source) (bound : Bound) : Type 0 where
  pub each : (start : List ℤ) → length start ≡ length source.names → (n : ℕ) (end : List ℤ)
      → EndsWith source.program start n end → n ≤ val bound (sizes_of_start start)

-- When a translation has room, and that the translations of programs within the limits are valid.
use Rattle.std.specs.Prelude.{ℕ, ◌<◌, ◌≤◌, ◌^◌, List, length}
use Rattle.while_model.specs.model.Limits.{place_limit}
use Rattle.while_model.specs.model.Programs.{Name}
use Rattle.while_model.specs.Statements.{Statements}
use Rattle.while_model.specs.Moves.{Move}
use Rattle.while_model.specs.Translation.{points_of, program_of}
use Rattle.its_model.specs.Valid.{IsValid}
use Rattle.while_tree.specs.Readable.{IsReadable}

-- There are numbers for the inputs and for the points of the moves.
pub record HasRoom (inputs : List Name) (ms : List Move) : Type 0 where
  pub few_inputs : length inputs ≤ place_limit
  pub few_points : length (points_of ms) < 2 ^ 32

-- The translation of a program within the limits is valid.
pub record ReadableProgramsAreValid : Type 0 where
  pub each : (inputs : List Name) (program : Statements) → IsReadable inputs program → IsValid (program_of inputs program)

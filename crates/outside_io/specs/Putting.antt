-- The effect of a put that fails on what was written.
use Rattle.std.specs.Prelude.{ℕ, ◌≤◌, List, Option, length, take}
use Rattle.std.specs.Io.KnownBytes.{Appends}

-- if the written bytes are disclosed, a prefix of the piece was appended: some of it, or nothing, or all
pub record AppendsPrefix (old new : Option (List ℕ)) (piece : List ℕ) : Type 0 where
  pub count : ℕ
  pub within : count ≤ length piece
  pub appends : Appends old new (take count piece)

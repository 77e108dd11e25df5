-- The meaning of the text of a file.
use Rattle.std.specs.Prelude.{◌≡◌, ◌≤◌, ℕ, List, length}
use Rattle.outside_io.specs.Files.{HasBytesIfDisclosed}
use Rattle.call_plans.specs.Calls.{ShelfUse}
use Rattle.call_plans.specs.Kinds.{TextKind}

-- the bytes of the file have this meaning, and aren't too many: if the shelf discloses its contents, they are those
-- of the file; and if no file is fetched after this one, they are as many as the last fetch read
pub record Gives {T : Type 0} (kind : TextKind T) (seen : ShelfUse) (file : List ℕ) (Last : Type 0) (meaning : T)
    : Type 0 where
  pub bytes : List ℕ
  pub held : HasBytesIfDisclosed seen.files_if_disclosed file bytes
  pub taken : Last → seen.taken ≡ length bytes
  pub within : length bytes ≤ kind.limit
  pub stands : kind.StandsFor bytes meaning

-- When a fetch may be refused.
use Rattle.std.specs.Prelude.{ℕ, ◌<◌, List, Option, IfNone, IfSome, ◌⊎◌}
use Rattle.outside_io.specs.Counts.{Rose}
use Rattle.outside_io.specs.Files.{Files, HoldsMore, Lacks}

-- a fetch may fail: the count of faults rose in it, or the shelf discloses its contents and lacks the name
abbrev pub MayFail : Option Files → List ℕ → ℕ → ℕ → Type 0
MayFail held name before now = Rose before now ⊎ Lacks held name

-- a fetch found a file too long
pub record IsTooLong (held : Option Files) (name : List ℕ) (limit taken : ℕ) : Type 0 where
  -- if the shelf discloses its contents, it holds the file, with more bytes than the limit
  pub disclosed : IfSome held (λ files. HoldsMore files name limit)
  -- if the shelf doesn't disclose its contents, the fetch took more bytes than the limit
  pub undisclosed : IfNone held (limit < taken)

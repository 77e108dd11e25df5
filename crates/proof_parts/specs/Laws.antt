-- What holds of every cut.
use Rattle.std.specs.Prelude.{◌≡◌, ℕ, List, ◌++◌}
use Rattle.proof_parts.specs.Head.{first_line}
use Rattle.proof_parts.specs.Parts.{Parts, IsCut, all_parts}

-- a file has one cut, and its parts one behind the other are the file without its first line
pub record PartsAreUnique : Type 0 where
  pub one : (bytes : List ℕ) (p q : Parts) → IsCut bytes p → IsCut bytes q → p ≡ q
  pub whole : (bytes : List ℕ) (p : Parts) → IsCut bytes p → bytes ≡ first_line ++ all_parts p

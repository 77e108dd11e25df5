-- The entries of lines of numbers, and how a writer writes them.
use Rattle.std.specs.Prelude.{◌≡◌, ℕ, suc, ◌+◌, if◌then◌else◌, List, [], ◌∷◌, ◌++◌, length, ℤ}
use Rattle.simplex_core.specs.int_laws.NormalForm.{is_zero}
use Rattle.simplex_core.specs.declared.problem.Entry.{Entry}
use Rattle.lp_builder.specs.declared.writer.EntryWriter.{EntryWriter}

-- the entries of a row's numbers, the first of which is in this column: the nonzero ones, in order
abbrev pub sparse : ℕ → ℕ → List ℤ → List Entry
sparse r c [] = []
sparse r c (x ∷ xs) =
    if is_zero x then sparse r (suc c) xs else record { row = r; col = c; value = x } ∷ sparse r (suc c) xs

-- the entries of lines, the first of which is in this row
abbrev pub entries_of : ℕ → List (List ℤ) → List Entry
entries_of r [] = []
entries_of r (l ∷ ls) = sparse r 0 l ++ entries_of (suc r) ls

-- the new writer has written these numbers after the old one's, in the same row
pub record Writes (old new : EntryWriter) (xs : List ℤ) : Type 0 where
  pub row : new.row ≡ old.row
  pub col : new.col ≡ old.col + length xs
  pub entries : new.entries.items ≡ old.entries.items ++ sparse old.row old.col xs

-- the new writer is the old one at the beginning of the next row
pub record GoesOn (old new : EntryWriter) : Type 0 where
  pub row : new.row ≡ old.row + 1
  pub col : new.col ≡ 0
  pub entries : new.entries.items ≡ old.entries.items

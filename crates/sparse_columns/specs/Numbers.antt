-- The numbers of a column, row by row.
use Rattle.std.specs.Prelude.{◌≡◌, ◌≢◌, ◌<◌, ℕ, ℤ, pos, ◌+ℤ◌, nat_eq, if◌then◌else◌, List, [], ◌∷◌, Some, slice_get, ◌-◌, vec_len, vec_capacity}
use Rattle.sparse_columns.specs.declared.cell.Cell.{Cell}
use Rattle.sparse_columns.specs.declared.cells.Cells.{Cells}

-- the column with the number z in row r, and 0 elsewhere
abbrev pub alone : ℕ → ℤ → ℕ → ℤ
alone r z i = if nat_eq r i then z else pos 0

-- the number in row i of cells: the sum of those in this row
abbrev pub number_of : List Cell → ℕ → ℤ
number_of [] i = pos 0
number_of (c ∷ cs) i = alone c.row c.number i +ℤ number_of cs i

-- the number in row i
abbrev pub number : Cells → ℕ → ℤ
number cells i = number_of cells.items.items i

-- for how many more cells memory is reserved
abbrev pub places : Cells → ℕ
places cells = vec_capacity cells.items - vec_len cells.items

-- z is put in row r, and the other numbers are unchanged
pub record Puts (old new : Cells) (r : ℕ) (z : ℤ) : Type 0 where
  pub each : (i : ℕ) → number new i ≡ number old i +ℤ alone r z i

-- the cells are the nonzero numbers f in the first m rows
pub record AreNumbers (cells : List Cell) (f : ℕ → ℤ) (m : ℕ) : Type 0 where
  pub within : (k : ℕ) (c : Cell) → slice_get cells k ≡ Some c → c.row < m
  pub each : (k : ℕ) (c : Cell) → slice_get cells k ≡ Some c → f c.row ≡ c.number
  pub all : (i : ℕ) → i < m → f i ≢ pos 0 → (k : ℕ) × (c : Cell) × (slice_get cells k ≡ Some c) × (c.row ≡ i)

-- the sum of the cells' numbers
abbrev pub total_of : List Cell → ℤ
total_of [] = pos 0
total_of (c ∷ cs) = c.number +ℤ total_of cs

-- The order of the cells of a column.
use Rattle.std.specs.Prelude.{◌≡◌, ℕ, ◌<◌, ◌≤◌, List, Some, slice_get}
use Rattle.sparse_columns.specs.declared.cell.Cell.{Cell}

-- the rows ascend, so no row has two cells
pub record IsAscending (cells : List Cell) : Type 0 where
  pub each : (k l : ℕ) (c d : Cell) → k < l → slice_get cells k ≡ Some c → slice_get cells l ≡ Some d → c.row < d.row

-- the cells before a position are in rows below i
pub record IsBefore (cells : List Cell) (position i : ℕ) : Type 0 where
  pub each : (k : ℕ) (c : Cell) → k < position → slice_get cells k ≡ Some c → c.row < i

-- the cells from a position on are in rows from i on
pub record IsFrom (cells : List Cell) (position i : ℕ) : Type 0 where
  pub each : (k : ℕ) (c : Cell) → position ≤ k → slice_get cells k ≡ Some c → i ≤ c.row

-- For each row the columns that may have a nonzero number there, and how these lists are maintained.
use Rattle.std.specs.Prelude.{◌≡◌, ◌≢◌, ℕ, ◌<◌, pos, Bool, true, List, Some, length, slice_get}
use Rattle.sparse_columns.specs.declared.cell.Cell.{Cell}
use Rattle.sparse_columns.specs.declared.column.Column.{Column}
use Rattle.sparse_columns.specs.Columns.{numerator}
use Rattle.simplex_core.specs.declared.column_table.lists.RowColumns.{RowColumns}

-- the list names column j
pub record Contains (listed : List ℕ) (j : ℕ) : Type 0 where
  pub at : ℕ
  pub is : slice_get listed at ≡ Some j

-- a list names each column that another list names
pub record HasAll (listed found : List ℕ) : Type 0 where
  pub each : (j : ℕ) → Contains listed j → Contains found j

-- a list names each column that one of two other lists names
pub record HasBoth (listed more found : List ℕ) : Type 0 where
  pub first : HasAll listed found
  pub second : HasAll more found

-- the list of row i names column j
pub record Names (lists : List RowColumns) (i j : ℕ) : Type 0 where
  pub list : RowColumns
  pub of : slice_get lists i ≡ Some list
  pub has : Contains list.columns.items j

-- the list of each of the first n rows names those of the first m columns that have a number there
pub record AreListed (columns : List Column) (lists : List RowColumns) (n m : ℕ) : Type 0 where
  pub each : (i j : ℕ) (x : Column) → i < n → j < m → slice_get columns j ≡ Some x → numerator x i ≢ pos 0
      → Names lists i j

-- the cells are in the first n rows
pub record AreRowsBelow (cells : List Cell) (n : ℕ) : Type 0 where
  pub each : (k : ℕ) (c : Cell) → slice_get cells k ≡ Some c → c.row < n

-- column j is appended to the list of the row of each of the first m cells, and each list still names what it named
pub record PutsCells (old new : List RowColumns) (cells : List Cell) (j m : ℕ) : Type 0 where
  pub length_is : length new ≡ length old
  pub kept : (k l : ℕ) → Names old k l → Names new k l
  pub put : (k : ℕ) (c : Cell) → k < m → slice_get cells k ≡ Some c → Names new c.row j

-- there is a mark for each of n columns, and none is set
pub record AreBlank (marks : List Bool) (n : ℕ) : Type 0 where
  pub length_is : length marks ≡ n
  pub each : (j : ℕ) → slice_get marks j ≢ Some true

-- column j has no mark, and no other column has a new mark
pub record UnmarksAt (old new : List Bool) (j : ℕ) : Type 0 where
  pub length_is : length new ≡ length old
  pub each : (k : ℕ) → slice_get new k ≡ Some true → (slice_get old k ≡ Some true) × (k ≢ j)

-- the first m of these columns have no marks, and no other column has a new mark
pub record Unmarks (old new : List Bool) (touched : List ℕ) (m : ℕ) : Type 0 where
  pub length_is : length new ≡ length old
  pub each : (k : ℕ) → slice_get new k ≡ Some true
      → (slice_get old k ≡ Some true) × ((n : ℕ) → n < m → slice_get touched n ≢ Some k)

-- these are the columns with a number in row r, each once
pub record AreTouched (columns : List Column) (r : ℕ) (touched : List ℕ) : Type 0 where
  pub there : (k j : ℕ) → slice_get touched k ≡ Some j
      → (x : Column) × (slice_get columns j ≡ Some x) × (numerator x r ≢ pos 0)
  pub once : (k l j : ℕ) → slice_get touched k ≡ Some j → slice_get touched l ≡ Some j → k ≡ l
  pub all : (j : ℕ) (x : Column) → slice_get columns j ≡ Some x → numerator x r ≢ pos 0 → Contains touched j

-- the list names each column with a number in row r
pub record Covers (columns : List Column) (r : ℕ) (listed : List ℕ) : Type 0 where
  pub each : (j : ℕ) (x : Column) → slice_get columns j ≡ Some x → numerator x r ≢ pos 0 → Contains listed j

-- of the first m listed columns, exactly these have a number in row r, each once, and they are marked
pub record AreMarked (columns : List Column) (r : ℕ) (listed : List ℕ) (m : ℕ) (marks : List Bool) (touched : List ℕ)
    : Type 0 where
  pub length_is : length marks ≡ length columns
  pub marked : (j : ℕ) → slice_get marks j ≡ Some true → Contains touched j
  pub own : (k j : ℕ) → slice_get touched k ≡ Some j → slice_get marks j ≡ Some true
  pub there : (k j : ℕ) → slice_get touched k ≡ Some j
      → (x : Column) × (slice_get columns j ≡ Some x) × (numerator x r ≢ pos 0)
  pub once : (k l j : ℕ) → slice_get touched k ≡ Some j → slice_get touched l ≡ Some j → k ≡ l
  pub all : (n j : ℕ) (x : Column) → n < m → slice_get listed n ≡ Some j → slice_get columns j ≡ Some x
      → numerator x r ≢ pos 0 → Contains touched j

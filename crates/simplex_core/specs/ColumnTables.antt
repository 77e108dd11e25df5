-- How a table of columns represents a tableau.
use Rattle.std.specs.Prelude.{◌≡◌, ◌≢◌, ℕ, ◌+◌, ◌<◌, ℤ, pos, ◌-ℤ◌, ◌*ℤ◌, ◌<ℤ◌, ◌≤ℤ◌, List, Option, Some, None, false}
use Rattle.std.specs.Prelude.{true, slice_get}
use Rattle.std.specs.Prelude.{slice_index, slice_set}
use Rattle.sparse_columns.specs.declared.cell.Cell.{Cell}
use Rattle.sparse_columns.specs.declared.column.Column.{Column}
use Rattle.sparse_columns.specs.Numbers.{alone, number_of}
use Rattle.sparse_columns.specs.Columns.{numerator, IsCleared}
use Rattle.simplex_core.specs.declared.column_table.ColumnTable.{ColumnTable}
use Rattle.simplex_core.specs.ColumnListing.{AreListed, AreBlank, Contains, Names}
use Rattle.linear_forms.specs.LinearProgram.{LinearProgram}
use Rattle.simplex_core.specs.Tableau.{Tableau, unknowns}
use Rattle.simplex_core.specs.Bland.{is_candidate, goes_before}

-- the column's number in row i is the entry over the scale: numerator times scale is entry times denominator
abbrev pub ShowsNumber : Column → ℕ → ℤ → ℤ → Type 0
ShowsNumber column i entry scale = numerator column i *ℤ scale ≡ entry *ℤ column.den

-- the list of each row names the columns with a number there
abbrev pub IsListed : ColumnTable → Type 0
IsListed table = AreListed table.columns.items table.lists.items table.rows (table.width + table.rows)

-- none of the first n columns has a number below 0 in row i
pub record AreNotNegative (columns : List Column) (i n : ℕ) : Type 0 where
  pub each : (j : ℕ) (x : Column) → j < n → slice_get columns j ≡ Some x → pos 0 ≤ℤ numerator x i

-- no column before `first` has a number below 0 in the first cost row
abbrev pub IsFirst : ColumnTable → Type 0
IsFirst table = AreNotNegative table.columns.items table.rows table.first

-- what the table stores besides its numbers is right: its lists and `first`, and no mark is set
pub record IsKept (table : ColumnTable) : Type 0 where
  pub lists : IsListed table
  pub first : IsFirst table
  pub blank : AreBlank table.marks.items (table.width + table.rows)

-- the table shows the tableau: its columns' numbers are the tableau's, over scales above 0, and its basis is the
-- tableau's; and what it stores besides its numbers is right
pub record ShowsColumns (p : LinearProgram) (table : ColumnTable) (t : Tableau) : Type 0 where
  pub rows : table.rows ≡ p.rows
  pub columns : table.width ≡ p.columns
  pub positive : (i : ℕ) → i < p.rows + 3 → pos 0 <ℤ t.scale i
  pub numbers : (i j : ℕ) (c : Column) → i < p.rows + 3 → slice_get table.columns.items j ≡ Some c
      → ShowsNumber c i (t.entry i j) (t.scale i)
  pub right : (i : ℕ) → i < p.rows → ShowsNumber table.right i (t.entry i (unknowns p)) (t.scale i)
  pub basis : (i : ℕ) → i < p.rows → slice_index table.basis.items i ≡ t.basis i
  pub beside : IsKept table

-- the cell is in an equation, and has the number of column j there
pub record IsCellOf (table : ColumnTable) (j : ℕ) (cell : Cell) : Type 0 where
  pub row : cell.row < table.rows
  pub number : (c : Column) → slice_get table.columns.items j ≡ Some c → numerator c cell.row ≡ cell.number

-- of the first m cells, this one is in a row with an entry above 0 in column c, and none that is goes before it; no
-- cell, if none is
abbrev pub IsBestCell : LinearProgram → Tableau → ℕ → List Cell → ℕ → Option Cell → Type 0
IsBestCell p t c cells m None =
    (k : ℕ) (e : Cell) → k < m → slice_get cells k ≡ Some e → is_candidate t c e.row ≡ false
IsBestCell p t c cells m (Some d) =
    (is_candidate t c d.row ≡ true)
    × ((k : ℕ) (e : Cell) → k < m → slice_get cells k ≡ Some e → is_candidate t c e.row ≡ true
    → goes_before p t c e.row d.row ≡ false)

-- the cells are the numbers of column c, reduced by its denominator in row r
pub record AreShifted (table : ColumnTable) (r c : ℕ) (shifted : List Cell) : Type 0 where
  pub each : (i : ℕ) (x : Column) → slice_get table.columns.items c ≡ Some x
      → number_of shifted i ≡ numerator x i -ℤ alone r x.den i

-- the table is the old one with multiples of the shifted cells subtracted from each column and, in the equations, from
-- the right sides; then row r is solved for column c
pub record IsPivotedBy (old new : ColumnTable) (r c : ℕ) (pivot : ℤ) (shifted : List Cell) : Type 0 where
  pub rows : new.rows ≡ old.rows
  pub columns : new.width ≡ old.width
  pub basis : new.basis.items ≡ slice_set old.basis.items r c
  pub shifts : AreShifted old r c shifted
  pub pivot_is : (x : Column) → slice_get old.columns.items c ≡ Some x → pivot ≡ numerator x r
  pub cleared : (j : ℕ) (a b : Column) → slice_get old.columns.items j ≡ Some a → slice_get new.columns.items j ≡ Some b
      → IsCleared a b r pivot shifted
  pub front : List Cell
  pub fronts : (i : ℕ) → i < old.rows → number_of front i ≡ number_of shifted i
  pub right : IsCleared old.right new.right r pivot front
  pub beside : IsKept new

-- each column's number in row r is cleared, what is stored besides the numbers is right, and nothing else changes
pub record ClearsColumns (old new : ColumnTable) (r : ℕ) (pivot : ℤ) (shifted : List Cell) : Type 0 where
  pub rows : new.rows ≡ old.rows
  pub columns : new.width ≡ old.width
  pub basis : new.basis.items ≡ old.basis.items
  pub right : new.right ≡ old.right
  pub cleared : (j : ℕ) (a b : Column) → slice_get old.columns.items j ≡ Some a → slice_get new.columns.items j ≡ Some b
      → IsCleared a b r pivot shifted
  pub beside : IsKept new

-- the numbers in row r of the first m of these columns are cleared, and nothing else changes
pub record ClearsTouched (old new : ColumnTable) (r : ℕ) (pivot : ℤ) (shifted : List Cell) (touched : List ℕ) (m : ℕ)
    : Type 0 where
  pub rows : new.rows ≡ old.rows
  pub columns : new.width ≡ old.width
  pub basis : new.basis.items ≡ old.basis.items
  pub right : new.right ≡ old.right
  pub cleared : (n j : ℕ) (a b : Column) → n < m → slice_get touched n ≡ Some j → slice_get old.columns.items j ≡ Some a
      → slice_get new.columns.items j ≡ Some b → IsCleared a b r pivot shifted
  pub others : (j : ℕ) → ((n : ℕ) → n < m → slice_get touched n ≢ Some j)
      → slice_get new.columns.items j ≡ slice_get old.columns.items j
  pub lists : new.lists.items ≡ old.lists.items
  pub marks : new.marks.items ≡ old.marks.items
  pub first : IsFirst old → IsFirst new

-- the number in row r of one column is cleared, and nothing else changes
pub record ClearsColumn (old new : ColumnTable) (position r : ℕ) (pivot : ℤ) (shifted : List Cell) : Type 0 where
  pub rows : new.rows ≡ old.rows
  pub columns : new.width ≡ old.width
  pub basis : new.basis.items ≡ old.basis.items
  pub right : new.right ≡ old.right
  pub cleared : (a b : Column) → slice_get old.columns.items position ≡ Some a
      → slice_get new.columns.items position ≡ Some b → IsCleared a b r pivot shifted
  pub others : (j : ℕ) → j ≢ position → slice_get new.columns.items j ≡ slice_get old.columns.items j
  pub lists : new.lists.items ≡ old.lists.items
  pub marks : new.marks.items ≡ old.marks.items
  pub first : IsFirst old → IsFirst new

-- the right side of row r is cleared, and nothing else changes
pub record ClearsRight (old new : ColumnTable) (r : ℕ) (pivot : ℤ) (shifted : List Cell) : Type 0 where
  pub rows : new.rows ≡ old.rows
  pub columns : new.width ≡ old.width
  pub basis : new.basis.items ≡ old.basis.items
  pub kept : new.columns.items ≡ old.columns.items
  pub lists : new.lists.items ≡ old.lists.items
  pub marks : new.marks.items ≡ old.marks.items
  pub first : new.first ≡ old.first
  pub cleared : IsCleared old.right new.right r pivot shifted

-- what is stored besides the numbers is right, and the numbers don't change
pub record ChangesBeside (old new : ColumnTable) : Type 0 where
  pub rows : new.rows ≡ old.rows
  pub columns : new.width ≡ old.width
  pub basis : new.basis.items ≡ old.basis.items
  pub right : new.right ≡ old.right
  pub kept : new.columns.items ≡ old.columns.items
  pub beside : IsKept new

-- these columns are appended to the list of row r, and the other rows' lists name what they named; what is stored
-- besides the numbers is right, and the numbers don't change
pub record ListsInRow (old new : ColumnTable) (r : ℕ) (touched : List ℕ) : Type 0 where
  pub changes : ChangesBeside old new
  pub put : (j : ℕ) → Contains touched j → Names new.lists.items r j
  pub others : (i j : ℕ) → i ≢ r → Names old.lists.items i j → Names new.lists.items i j

-- these columns are appended to the list of the row of each of the first m cells except one in row r; what is stored
-- besides the numbers is right, and the numbers don't change
pub record ListsTouched (old new : ColumnTable) (r : ℕ) (cells : List Cell) (touched : List ℕ) (m : ℕ) : Type 0 where
  pub changes : ChangesBeside old new
  pub put : (k j : ℕ) (c : Cell) → k < m → slice_get cells k ≡ Some c → c.row ≢ r → Contains touched j
      → Names new.lists.items c.row j

-- How a sparse table of fractions represents a tableau.
use Rattle.std.specs.Prelude.{◌≡◌, ◌≢◌, ℕ, ◌+◌, ◌<◌, ℤ, pos, ◌-ℤ◌, ◌*ℤ◌, ◌<ℤ◌, List, Option, Some, None, false, nat_eq}
use Rattle.std.specs.Prelude.{if◌then◌else◌}
use Rattle.std.specs.Prelude.{slice_get, slice_index, slice_index_or, slice_set, length, ◌⊎◌, MatchBool}
use Rattle.frac128.specs.declared.frac.Frac.{Frac}
use Rattle.frac128.specs.Fraction.{IsFraction}
use Rattle.simplex_core.specs.declared.sparse_table.SparseTable.{SparseTable}
use Rattle.simplex_core.specs.Bland.{IsBest, is_candidate}
use Rattle.sparse_rows.specs.Rows.{fraction_at}
use Rattle.simplex_core.specs.Lines.{IsBounded}
use Rattle.simplex_core.specs.Sizes.{IsBelow}
use Rattle.simplex_core.specs.Positions.{InTable}
use Rattle.linear_forms.specs.LinearProgram.{LinearProgram}
use Rattle.simplex_core.specs.Tableau.{Tableau, sign_of}

-- the length of a row: the unknowns and the right side
abbrev pub width : SparseTable → ℕ
width table = table.columns + table.rows + 1

-- the fraction of a line at column j, if a line is given
abbrev pub entry_of : Option (List (ℕ × Frac)) → ℕ → Option Frac
entry_of None j = None
entry_of (Some line) j = Some (fraction_at line j)

-- the fraction in row i and column j, if it is in the table; the last column contains the right sides
abbrev pub cell : SparseTable → ℕ → ℕ → Option Frac
cell table i j =
    if nat_eq j (table.columns + table.rows) then slice_get table.right.items i
    else entry_of (slice_get table.lines.items i) j

-- the line has the numbers of row i, and is 0 after them
pub record IsLineOf (table : SparseTable) (i : ℕ) (line : List (ℕ × Frac)) : Type 0 where
  pub is : slice_get table.lines.items i ≡ Some line
  pub each : (j : ℕ) → j < table.columns + table.rows → cell table i j ≡ Some (fraction_at line j)
  pub bounded : IsBounded line (table.columns + table.rows)

-- the table has the same rows, columns, basis and right sides as before, and the line as row r
pub record SetsLine (old new : SparseTable) (row : ℕ) (line : List (ℕ × Frac)) : Type 0 where
  pub rows : new.rows ≡ old.rows
  pub columns : new.columns ≡ old.columns
  pub basis : new.basis.items ≡ old.basis.items
  pub written : (j : ℕ) → j < old.columns + old.rows → cell new row j ≡ Some (fraction_at line j)
  pub others : (i j : ℕ) → ((i ≡ row) → (j < old.columns + old.rows) → ⊥) → j < width old → cell new i j ≡ cell old i j

-- the table has the same rows, columns and basis as before, and at most one number changed
pub record ChangesCell (old new : SparseTable) (row column : ℕ) : Type 0 where
  pub rows : new.rows ≡ old.rows
  pub columns : new.columns ≡ old.columns
  pub basis : new.basis.items ≡ old.basis.items
  pub others : (i j : ℕ) → j < width old → ((i ≡ row) → (j ≡ column) → ⊥) → cell new i j ≡ cell old i j

-- g is f less factor times b
abbrev pub IsLessMultiple : Frac → Frac → Frac → Frac → Type 0
IsLessMultiple f factor b g =
    IsFraction g ((f.num *ℤ factor.den) *ℤ b.den -ℤ (factor.num *ℤ b.num) *ℤ f.den) ((f.den *ℤ factor.den) *ℤ b.den)

-- the table has the same rows, columns and basis as before, and at most row r changed
pub record ChangesRow (old new : SparseTable) (r : ℕ) : Type 0 where
  pub rows : new.rows ≡ old.rows
  pub columns : new.columns ≡ old.columns
  pub basis : new.basis.items ≡ old.basis.items
  pub others : (i j : ℕ) → i ≢ r → j < width old → cell new i j ≡ cell old i j

-- the table has the same rows, columns and basis as before, and the same row r
pub record KeepsRow (old new : SparseTable) (r : ℕ) : Type 0 where
  pub rows : new.rows ≡ old.rows
  pub columns : new.columns ≡ old.columns
  pub basis : new.basis.items ≡ old.basis.items
  pub row : (j : ℕ) → j < width old → cell new r j ≡ cell old r j

-- each number of the table is below 2^31 in numerator and denominator
pub record AreSmall (table : SparseTable) : Type 0 where
  pub each : (i j : ℕ) (f : Frac) → InTable table.rows table.columns i j → cell table i j ≡ Some f → IsBelow 31 f

-- each number of row r is below 2^bits in numerator and denominator
pub record IsRowBelow (bits : ℕ) (table : SparseTable) (r : ℕ) : Type 0 where
  pub each : (j : ℕ) (f : Frac) → InTable table.rows table.columns r j → cell table r j ≡ Some f → IsBelow bits f

-- some number of the table isn't below 2^31
pub record HasLarge (table : SparseTable) : Type 0 where
  pub row : ℕ
  pub column : ℕ
  pub number : Frac
  pub in_table : InTable table.rows table.columns row column
  pub is : cell table row column ≡ Some number
  pub large : ¬ IsBelow 31 number

-- some number of row r isn't below 2^31
pub record HasLargeIn (table : SparseTable) (r : ℕ) : Type 0 where
  pub column : ℕ
  pub number : Frac
  pub in_table : InTable table.rows table.columns r column
  pub is : cell table r column ≡ Some number
  pub large : ¬ IsBelow 31 number

-- the number in row i and column j is below 2^bits in numerator and denominator
pub record IsCellBelow (bits : ℕ) (table : SparseTable) (i j : ℕ) : Type 0 where
  pub each : (f : Frac) → cell table i j ≡ Some f → IsBelow bits f

-- some number of the first m rows, except for row r, isn't below 2^31
pub record HasLargeBut (table : SparseTable) (r m : ℕ) : Type 0 where
  pub row : ℕ
  pub within : row < m
  pub apart : row ≢ r
  pub large : HasLargeIn table row

-- each number of the first m rows, except for row r, is below 2^31
pub record AreSmallBut (table : SparseTable) (r m : ℕ) : Type 0 where
  pub each : (i : ℕ) → i ≢ r → i < m → IsRowBelow 31 table i

-- row r is the old row divided by a number
pub record IsRowDivided (old new : SparseTable) (r : ℕ) (by : Frac) : Type 0 where
  pub each : (j : ℕ) (f g : Frac) → InTable old.rows old.columns r j → cell old r j ≡ Some f → cell new r j ≡ Some g
      → IsFraction g (f.num *ℤ by.den) (f.den *ℤ by.num)

-- row i is the old row less a multiple of row r
pub record IsRowCleared (old new : SparseTable) (i r : ℕ) (factor : Frac) : Type 0 where
  pub each : (j : ℕ) (f b g : Frac) → InTable old.rows old.columns i j → cell old i j ≡ Some f → cell old r j ≡ Some b
      → cell new i j ≡ Some g
      → IsLessMultiple f factor b g

-- the right side of row i is the old one less a multiple of row r's, and nothing else in the table changes
pub record ClearsSide (old new : SparseTable) (i r : ℕ) (factor : Frac) : Type 0 where
  pub changes : ChangesCell old new i (old.columns + old.rows)
  pub cleared : (f b g : Frac) → cell old i (old.columns + old.rows) ≡ Some f
      → cell old r (old.columns + old.rows) ≡ Some b → cell new i (old.columns + old.rows) ≡ Some g
      → IsLessMultiple f factor b g

-- row i is the old row less the multiple of row r by the number of row i in this column
pub record IsRowClearedBy (old new : SparseTable) (i r column : ℕ) : Type 0 where
  pub each : (j : ℕ) (f factor b g : Frac) → InTable old.rows old.columns i j → cell old i j ≡ Some f
      → cell old i column ≡ Some factor → cell old r j ≡ Some b
      → cell new i j ≡ Some g → IsLessMultiple f factor b g

-- the table is the old one after the pivot at row r and column c
pub record IsPivoted (old new : SparseTable) (r c : ℕ) : Type 0 where
  pub rows : new.rows ≡ old.rows
  pub columns : new.columns ≡ old.columns
  pub basis : new.basis.items ≡ slice_set old.basis.items r c
  pub divided : (j : ℕ) (f by g : Frac) → InTable old.rows old.columns r j → cell old r j ≡ Some f
      → cell old r c ≡ Some by → cell new r j ≡ Some g
      → IsFraction g (f.num *ℤ by.den) (f.den *ℤ by.num)
  pub cleared : (i j : ℕ) (f factor b g : Frac) → i ≢ r → InTable old.rows old.columns i j → cell old i j ≡ Some f
      → cell old i c ≡ Some factor
      → cell new r j ≡ Some b → cell new i j ≡ Some g → IsLessMultiple f factor b g

-- the table shows the tableau: its fractions are the tableau's, over scales above 0, and its basis is
pub record Shows (p : LinearProgram) (table : SparseTable) (t : Tableau) : Type 0 where
  pub rows : table.rows ≡ p.rows
  pub columns : table.columns ≡ p.columns
  pub positive : (i : ℕ) → i < p.rows + 3 → pos 0 <ℤ t.scale i
  pub numbers : (i j : ℕ) (f : Frac) → InTable p.rows p.columns i j → cell table i j ≡ Some f
      → IsFraction f (t.entry i j) (t.scale i)
  pub basis : (i : ℕ) → i < p.rows → slice_index table.basis.items i ≡ t.basis i

-- the table shows the tableau, and its flag says whether all its numbers are below 2^31
pub record ShowsTested (p : LinearProgram) (table : SparseTable) (t : Tableau) : Type 0 where
  pub shows : Shows p table t
  pub range : MatchBool table.is_small (AreSmall table) (HasLarge table)

-- the basic solution's number in column j, by the first m rows: the right side of a row that is solved for column j, or
-- 0 if none is
abbrev pub IsBasicNumber : SparseTable → ℕ → ℕ → Frac → Type 0
IsBasicNumber table m j f =
    ((i : ℕ) × (i < m) × (slice_index table.basis.items i ≡ j) × (cell table i (table.columns + table.rows) ≡ Some f))
    ⊎ ((f.num ≡ pos 0) × ((i : ℕ) → i < m → slice_index table.basis.items i ≢ j))

-- the list holds the basic solution's numbers, by the first m rows
pub record HoldsBasic (table : SparseTable) (m : ℕ) (at : List Frac) : Type 0 where
  pub length_is : length at ≡ table.columns
  pub each : (j : ℕ) (f : Frac) → slice_get at j ≡ Some f → IsBasicNumber table m j f

-- the list holds, for each of the first m rows, 1 less its artificial unknown's reduced cost in the cost row of the
-- artificial unknowns, with the sign of the right side
pub record HoldsDual (table : SparseTable) (right : List ℤ) (m : ℕ) (dual : List Frac) : Type 0 where
  pub length_is : length dual ≡ m
  pub each : (k : ℕ) (y x : Frac) → k < m → slice_get dual k ≡ Some y
      → cell table table.rows (table.columns + k) ≡ Some x
      → IsFraction y (sign_of (slice_index_or right k (pos 0)) *ℤ (x.den -ℤ x.num)) x.den

-- the row is the best of the first m, or none if no row has an entry above 0
abbrev pub IsBestOf : LinearProgram → Tableau → ℕ → ℕ → Option ℕ → Type 0
IsBestOf p t c m None = (i : ℕ) → i < m → is_candidate t c i ≡ false
IsBestOf p t c m (Some r) = IsBest p t c m r

-- The solution and the dual that are read off a table of columns.
use Rattle.std.specs.Prelude.{◌≡◌, ◌≢◌, ℕ, ◌+◌, ◌<◌, ℤ, pos, ◌-ℤ◌, ◌*ℤ◌, List, Some, slice_get, slice_index}
use Rattle.std.specs.Prelude.{slice_index_or}
use Rattle.std.specs.Prelude.{length, ◌⊎◌}
use Rattle.frac128.specs.declared.frac.Frac.{Frac}
use Rattle.frac128.specs.Fraction.{IsFraction}
use Rattle.sparse_columns.specs.declared.column.Column.{Column}
use Rattle.sparse_columns.specs.Columns.{numerator}
use Rattle.simplex_core.specs.declared.column_table.ColumnTable.{ColumnTable}
use Rattle.simplex_core.specs.Tableau.{sign_of}

-- the basic solution's number in column j, by the first m rows: the right side of a row that is solved for column j, or
-- 0 if none is
abbrev pub IsBasicOf : ColumnTable → ℕ → ℕ → Frac → Type 0
IsBasicOf table m j f =
    ((i : ℕ) × (i < m) × (slice_index table.basis.items i ≡ j) × IsFraction f (numerator table.right i) table.right.den)
    ⊎ ((f.num ≡ pos 0) × ((i : ℕ) → i < m → slice_index table.basis.items i ≢ j))

-- the list holds the basic solution's numbers, by the first m rows
pub record HoldsBasicOf (table : ColumnTable) (m : ℕ) (at : List Frac) : Type 0 where
  pub length_is : length at ≡ table.width
  pub each : (j : ℕ) (f : Frac) → slice_get at j ≡ Some f → IsBasicOf table m j f

-- the list holds, for each of the first m rows, 1 less its artificial unknown's reduced cost in the cost row of the
-- artificial unknowns, with the sign of the right side
pub record HoldsDualOf (table : ColumnTable) (right : List ℤ) (m : ℕ) (dual : List Frac) : Type 0 where
  pub length_is : length dual ≡ m
  pub each : (k : ℕ) (y : Frac) (x : Column) → k < m → slice_get dual k ≡ Some y
      → slice_get table.columns.items (table.width + k) ≡ Some x
      → IsFraction y (sign_of (slice_index_or right k (pos 0)) *ℤ (x.den -ℤ numerator x table.rows)) x.den

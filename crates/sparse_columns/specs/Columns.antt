-- The values of a column, and its values after a pivot.
use Rattle.std.specs.Prelude.{◌≡◌, ℕ, ℤ, pos, ◌+ℤ◌, ◌-ℤ◌, ◌*ℤ◌, ◌<ℤ◌, List}
use Rattle.sparse_columns.specs.declared.cell.Cell.{Cell}
use Rattle.sparse_columns.specs.declared.wide.Wide.{Wide}
use Rattle.sparse_columns.specs.declared.column.Column.{Column}
use Rattle.sparse_columns.specs.Numbers.{alone, number, number_of}
use Rattle.sparse_columns.specs.Wide.{wide_number}
use Rattle.sparse_columns.specs.Ratios.{IsRatio}

-- the numerator in row i
abbrev pub numerator : Column → ℕ → ℤ
numerator column i = number column.cells i

-- the column has these numbers over the denominator, all divided by one number above 0
pub record IsMultiple (column : Column) (wide : List Wide) (den : ℤ) : Type 0 where
  pub divisor : ℤ
  pub positive : pos 0 <ℤ divisor
  pub numbers : (i : ℕ) → numerator column i *ℤ divisor ≡ wide_number wide i
  pub over : column.den *ℤ divisor ≡ den

-- the column has the left numbers times f plus the right ones times g over the denominator, all divided by one number
-- above 0
pub record IsCombination (column : Column) (left : List Cell) (f : ℤ) (right : List Cell) (g den : ℤ) : Type 0 where
  pub divisor : ℤ
  pub positive : pos 0 <ℤ divisor
  pub numbers : (i : ℕ) → numerator column i *ℤ divisor ≡ number_of left i *ℤ f +ℤ number_of right i *ℤ g
  pub over : column.den *ℤ divisor ≡ den

-- the new column is the old one less a multiple of the shifted numbers, by the ratio of its number in row r to the
-- pivot, all multiplied by one number and divided by another
pub record IsCleared (old new : Column) (r : ℕ) (pivot : ℤ) (shifted : List Cell) : Type 0 where
  pub over : ℤ
  pub under : ℤ
  pub divisor : ℤ
  pub under_positive : pos 0 <ℤ under
  pub positive : pos 0 <ℤ divisor
  pub ratio : IsRatio (numerator old r) pivot over under
  pub numbers : (i : ℕ) → numerator new i *ℤ divisor ≡ numerator old i *ℤ under -ℤ number_of shifted i *ℤ over
  pub den : new.den *ℤ divisor ≡ old.den *ℤ under

-- the numerator z is put in row r, and the other numerators and the denominator are unchanged
pub record PutsNumerator (old new : Column) (r : ℕ) (z : ℤ) : Type 0 where
  pub numbers : (i : ℕ) → numerator new i ≡ numerator old i +ℤ alone r z i
  pub den : new.den ≡ old.den

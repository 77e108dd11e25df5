-- Linear programs in their written form, and the limits of their texts.
use Rattle.std.specs.Prelude.{ℕ, ◌-◌, ◌^◌, ℤ, List}

-- a row: its numbers, one for each column, and its right side
pub record Row : Type 0 where
  pub numbers : List ℤ
  pub right : ℤ

-- a linear program: the number of columns with its sign, two lists of costs, and the rows in order
pub record Lp : Type 0 where
  pub columns : ℤ
  pub first : List ℕ
  pub second : List ℕ
  pub rows : List Row

-- the greatest absolute value of a number
abbrev pub number_limit : ℕ
number_limit = 2 ^ 31 - 1

-- the greatest number of columns, and of rows
abbrev pub size_limit : ℕ
size_limit = 64

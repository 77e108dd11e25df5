-- Bounds on the numbers of rows, multipliers and points.
use Rattle.std.specs.Prelude.{ℕ, ◌+◌, ◌^◌, ◌<◌, ◌≤◌, List, [], ◌∷◌, length, ℤ, unsigned_abs}
use Rattle.std.specs.List.{All}
use Rattle.linear_forms.specs.Forms.{Form, at}
use Rattle.linear_forms.specs.Limits.{certificate_limit, point_limit}

-- each multiplier is at most 2^56
abbrev pub AreWithinLimit : List ℕ → Type 0
AreWithinLimit ms = All (λ m. m ≤ certificate_limit) ms

-- the sum of the absolute values of a number of each form
abbrev pub column_size : (Form → ℤ) → List Form → ℕ
column_size number [] = 0
column_size number (f ∷ forms) = unsigned_abs (number f) + column_size number forms

-- the limit on the sum of the absolute values in a column
abbrev pub column_limit : ℕ
column_limit = 2 ^ 70 + 2 ^ 10

-- for each unknown, and for the constants, the sum of the absolute values is at most 2^70 + 2^10
pub record AreSmall (rows : List Form) : Type 0 where
  pub coefs : (u : ℕ) → column_size (λ f. at f.coefs u) rows ≤ column_limit
  pub constants : column_size (λ f. f.constant) rows ≤ column_limit

-- the strict limit on the absolute values of a row's numbers: 2^63
abbrev pub row_limit : ℕ
row_limit = 2 ^ 63

-- each number of the list is below 2^63 in absolute value
abbrev pub AreRowNumbers : List ℤ → Type 0
AreRowNumbers xs = All (λ x. unsigned_abs x < row_limit) xs

-- the coefficients and the constant of a row are below 2^63 in absolute value
pub record HasRowNumbers (f : Form) : Type 0 where
  pub coefs : AreRowNumbers f.coefs
  pub constant : unsigned_abs f.constant < row_limit

-- each part is at most 2^45 in absolute value
abbrev pub AreParts : List ℤ → Type 0
AreParts xs = All (λ x. unsigned_abs x ≤ point_limit) xs

-- at most 128 rows with numbers below 2^63 are small
abbrev pub RowsOfARuleAreSmall : Type 0
RowsOfARuleAreSmall = (rows : List Form) → length rows ≤ 128 → All HasRowNumbers rows → AreSmall rows

-- Forms, column by column.
use Rattle.std.specs.Prelude.{◌≡◌, ℕ, ◌<◌, List, length, ℤ}
use Rattle.poly_terms.specs.linear_forms.Forms.{Form, at}
use Rattle.cert_context.specs.declared.columns.Column.{Column}
use Rattle.cert_context.specs.declared.columns.Column.TheVariants as column

-- the number of a form in a column: that of an unknown, or the constant
abbrev pub number_in : Column → Form → ℤ
number_in (column.Unknown u) f = at f.coefs u
number_in column.Constant f = f.constant

-- two forms have the same entry in each column
pub record IsAlike (f g : Form) : Type 0 where
  pub coefs : (u : ℕ) → at f.coefs u ≡ at g.coefs u
  pub constant : f.constant ≡ g.constant

-- the entries of the first n columns
pub record HasColumns (f : ℕ → ℤ) (n : ℕ) (xs : List ℤ) : Type 0 where
  pub long : length xs ≡ n
  pub each : (u : ℕ) → u < n → at xs u ≡ f u

-- The columns of rows.
use Rattle.std.specs.Prelude.{ℕ, ◌≤◌, List, length, ℤ}
use Rattle.std.specs.List.{All}
use Rattle.linear_forms.specs.Forms.{Form, at}
use Rattle.linear_forms.specs.Certificates.{combined_coef, combined_constant}
use Rattle.farkas_cert.specs.declared.combination.Column.{Column}
use Rattle.farkas_cert.specs.declared.combination.Column.TheVariants.{Unknown, Constants}

-- the number of a form in a column
abbrev pub number_in : Column → Form → ℤ
number_in (Unknown u) f = at f.coefs u
number_in Constants f = f.constant

-- a column of the sum of the rows, each times its multiplier
abbrev pub combined_in : Column → List ℕ → List Form → ℤ
combined_in (Unknown u) ms rows = combined_coef ms rows u
combined_in Constants ms rows = combined_constant ms rows

-- no form has more coefficients than this
abbrev pub HaveAtMost : ℕ → List Form → Type 0
HaveAtMost n rows = All (λ f. length f.coefs ≤ n) rows

-- Affine forms over numbered unknowns: the rows of a rule, new values and ranking functions.
use Rattle.std.specs.Prelude.{ℕ, suc, List, [], ◌∷◌, ℤ, pos, ◌+ℤ◌, ◌*ℤ◌, slice_index_or}

-- an affine form: a coefficient for each unknown, numbered from 0, and a constant; missing coefficients count as 0
pub record Form : Type 0 where
  pub coefs : List ℤ
  pub constant : ℤ

-- the number at a position of a list, or 0 past its end
abbrev pub at : List ℤ → ℕ → ℤ
at xs i = slice_index_or xs i (pos 0)

-- the sum of the coefficients times the numerators of the unknowns
abbrev pub list_dot : List ℤ → (ℕ → ℤ) → ℤ
list_dot [] z = pos 0
list_dot (a ∷ rest) z = a *ℤ z 0 +ℤ list_dot rest (λ i. z (suc i))

-- the value of a form, times d, at the point with the numerators z over the denominator d: the coefficients times the
-- numerators, and the constant times the denominator; with d = 0 it is the change of the form along the ray z
abbrev pub form_value : Form → (ℕ → ℤ) → ℤ → ℤ
form_value f z d = list_dot f.coefs z +ℤ f.constant *ℤ d

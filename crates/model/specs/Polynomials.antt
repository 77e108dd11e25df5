-- Polynomials as plain data: sums of monomials with integer coefficients, and their values.
use Rattle.std.specs.Prelude.{ℕ, List, [], ◌∷◌, length, max, ℤ, pos, ◌+ℤ◌, ◌*ℤ◌, slice_index_or}

-- a monomial: a coefficient, and the numbers of its variables, from 0, each repeated as often as it is a factor
pub record Monomial : Type 0 where
  pub coef : ℤ
  pub vars : List ℕ

-- a polynomial: the sum of its monomials
abbrev pub Polynomial : Type 0
Polynomial = List Monomial

-- the product of variables if variable i has the value env[i]; without variables it is 1
abbrev pub product_value : List ℕ → List ℤ → ℤ
product_value [] env = pos 1
product_value (i ∷ vars) env = slice_index_or env i (pos 0) *ℤ product_value vars env

-- the value of a monomial
abbrev pub monomial_value : Monomial → List ℤ → ℤ
monomial_value m env = m.coef *ℤ product_value m.vars env

-- the value of a polynomial; that of the empty one is 0
abbrev pub polynomial_value : Polynomial → List ℤ → ℤ
polynomial_value [] env = pos 0
polynomial_value (m ∷ ms) env = monomial_value m env +ℤ polynomial_value ms env

-- the degree of a polynomial: the maximum number of factors of a monomial; that of the empty one is 0
abbrev pub degree_of : Polynomial → ℕ
degree_of [] = 0
degree_of (m ∷ ms) = max (length m.vars) (degree_of ms)

-- Sums over the monomials of a list, and when two lists denote the same polynomial.
use Rattle.std.specs.Prelude.{◌≡◌, ℕ, ◌+◌, List, [], ◌∷◌, ℤ, pos, ◌+ℤ◌, ◌*ℤ◌, nat_abs}
use Rattle.model.specs.Polynomials.{Monomial}

-- the sum of the coefficients of monomials, each multiplied by a number that depends on its variables
abbrev pub total : (List ℕ → ℤ) → List Monomial → ℤ
total g [] = pos 0
total g (m ∷ ms) = (m.coef *ℤ g m.vars) +ℤ total g ms

-- two lists of monomials denote one polynomial: whatever number each list of variables gets, their sums agree
pub record IsSamePolynomial (ms ns : List Monomial) : Type 0 where
  pub totals : (g : List ℕ → ℤ) → total g ms ≡ total g ns

-- the sum of the absolute values of the coefficients
abbrev pub norm : List Monomial → ℕ
norm [] = 0
norm (m ∷ ms) = nat_abs m.coef + norm ms

-- The laws that the crate's functions state.
use Rattle.std.specs.Prelude.{◌≡◌, ℕ, ◌<◌, ℤ, pos, ◌≤ℤ◌, List, true}
use Rattle.int_laws.specs.Sums.{dot}
use Rattle.int_laws.specs.Polynomial.{Polynomial, value}
use Rattle.int_laws.specs.NormalForm.{is_identity}

-- two polynomials with the same coefficients have the same value everywhere
pub record PolynomialIdentitiesHold : Type 0 where
  pub each : (xs : List ℤ) (p q : Polynomial) → is_identity p q ≡ true → value p xs ≡ value q xs

-- x solves the equations: each row times x is the row's right side, and no coordinate is negative
pub record Solves (rows columns : ℕ) (entry : ℕ → ℕ → ℤ) (right : ℕ → ℤ) (x : ℕ → ℤ) : Type 0 where
  pub equations : (i : ℕ) → i < rows → dot columns (entry i) x ≡ right i
  pub nonnegative : (j : ℕ) → j < columns → pos 0 ≤ℤ x j

-- weak duality: if the prices give each column at most its cost, then they give the right sides at
-- most the cost of every solution
pub record WeakDualityHolds : Type 0 where
  pub each : (rows columns : ℕ) (entry : ℕ → ℕ → ℤ) (right cost price x : ℕ → ℤ)
      → Solves rows columns entry right x
      → ((j : ℕ) → j < columns → dot rows price (λ i. entry i j) ≤ℤ cost j)
      → dot rows price right ≤ℤ dot columns cost x

-- A bound is within itself, so that the bound that a node composes can always be stated.
use Rattle.std.specs.Prelude.{◌≡◌, ℕ, ◌+◌, ◌*◌, ◌≤◌, Bool, true}
use Rattle.poly_terms.specs.model.Terms.{Term}
use Rattle.signed_bounds.specs.Bounds.{Signed, Quotient}
use Rattle.signed_bounds.specs.Limits.{comparison_limit}
use Rattle.signed_bounds.specs.Measure.{node_count}
use Rattle.signed_bounds.specs.Fits.{fits}
use Rattle.signed_bounds.specs.Products.{factor_total, products_of, is_multipliable}
use Rattle.signed_bounds.specs.Within.{within}

-- the bound fits itself, is multiplied out within the limits, and its products are small enough to be compared with
-- themselves and a quotient of the bound
pub record IsComparedWithItself (is_safe : Term → Bool) (b : Signed) : Type 0 where
  pub fits_itself : fits is_safe b b ≡ true
  pub multiplied : is_multipliable 1 b ≡ true
  pub size : factor_total (products_of b) * (factor_total (products_of b) + (2 + node_count b)) ≤ comparison_limit

-- a bound that fits itself is within itself; if it is also small enough to be compared, it is, with a divisor that
-- isn't too large, within its quotient by the divisor
pub record BoundsAreWithinThemselves : Type 0 where
  pub itself : (is_safe : Term → Bool) (b : Signed) → fits is_safe b b ≡ true → within is_safe 1 b b ≡ true
  pub quotient : (is_safe : Term → Bool) (den : ℕ) (b : Signed) → IsComparedWithItself is_safe b
      → is_multipliable den (Quotient b den) ≡ true → within is_safe den b (Quotient b den) ≡ true

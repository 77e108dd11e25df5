-- Expansion preserves values.
use Rattle.std.specs.Prelude.{◌≡◌, List, ℤ}
use Rattle.model.specs.Terms.{Term, value}
use Rattle.model.specs.Polynomials.{Polynomial, polynomial_value}

-- the polynomial has the value of the expression, whatever values the variables have
pub record HasTheValueOf (t : Term) (p : Polynomial) : Type 0 where
  pub each : (env : List ℤ) → polynomial_value p env ≡ value t env

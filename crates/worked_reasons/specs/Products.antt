-- Why places have no size in k(A, B) -> k(A * B, A * B) where A <= 0, worked out by hand.
use Rattle.std.specs.Prelude.{◌≡◌, ℕ, List}
use Rattle.outcome.specs.Reports.{SizeNonlinear}
use Rattle.cert_types.specs.cert_rules.Nodes.{Member}
use Rattle.bound_fixpoint.specs.Keys.{Bounds, key}
use Rattle.time_bounds.specs.SaidBounds.{bounds_said}
use Rattle.time_bounds.specs.SizeWhys.{IsComponentOf, HasNoSize}
use Rattle.worked_reasons.specs.Programs.{products, both_products, products_report}

abbrev pub products_said : Bounds
products_said = bounds_said products products_report

-- both places are one component, of each of them, and of no other members. Both are nonlinear, and the first is
-- reported for either place, not the second
pub record ProductsAreWorkedOut : Type 0 where
  pub first_component : IsComponentOf products 0 1 1 both_products
  pub second_component : IsComponentOf products 0 1 2 both_products
  pub no_other : (i : ℕ) (members : List Member) → IsComponentOf products 0 1 i members → members ≡ both_products
  pub first : HasNoSize products 0 products_said 1 1 (SizeNonlinear (key 1 1))
  pub second_by_first : HasNoSize products 0 products_said 1 2 (SizeNonlinear (key 1 1))
  pub not_by_second : ¬ (HasNoSize products 0 products_said 1 1 (SizeNonlinear (key 1 2)))
  pub not_by_itself : ¬ (HasNoSize products 0 products_said 1 2 (SizeNonlinear (key 1 2)))

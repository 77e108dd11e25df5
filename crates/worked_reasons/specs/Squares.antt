-- Why places have no size in k(A) -> k(A * A) and k(A) -> l(A * A), both where A <= 0, worked out by hand.
use Rattle.std.specs.Prelude.{◌≡◌, List, [], ◌∷◌}
use Rattle.outcome.specs.Reports.{SizeMissing, SizeNonlinear, SizeLarge}
use Rattle.cert_types.specs.cert_rules.Nodes.{Member}
use Rattle.bound_fixpoint.specs.Keys.{Bounds, key}
use Rattle.time_bounds.specs.SaidBounds.{bounds_said}
use Rattle.time_bounds.specs.SizeWhys.{IsComponentOf, HasNoSize}
use Rattle.time_bounds.specs.Whys.{ReasonsAreTrue}
use Rattle.worked_reasons.specs.Programs.{squares, square_after, squares_report, nonlinear_report, towering_report}

abbrev pub squares_said : Bounds
squares_said = bounds_said squares squares_report

abbrev pub towering_said : Bounds
towering_said = bounds_said squares towering_report

-- the place after each rule is a component by itself, and of no other members
pub record ComponentsOfSquares : Type 0 where
  pub first : IsComponentOf squares 0 1 1 (square_after 1 ∷ [])
  pub second : IsComponentOf squares 0 2 1 (square_after 2 ∷ [])
  pub no_other_first : (members : List Member) → IsComponentOf squares 0 1 1 members → members ≡ square_after 1 ∷ []
  pub no_other_second : (members : List Member) → IsComponentOf squares 0 2 1 members → members ≡ square_after 2 ∷ []

-- the first place squares itself in a loop, so it is nonlinear; the second one isn't, since it isn't in a loop, but it
-- depends on the first one. If that has a size, it isn't missing; and if it has one of 201 levels, the second size is
-- too large, with 823 nodes and not 822. All reasons in the whole report are right; and not if it says that the second
-- place is nonlinear
pub record SquaresAreWorkedOut : Type 0 where
  pub components : ComponentsOfSquares
  pub nonlinear : HasNoSize squares 0 squares_said 1 1 (SizeNonlinear (key 1 1))
  pub not_in_a_loop : ¬ (HasNoSize squares 0 squares_said 2 1 (SizeNonlinear (key 2 1)))
  pub missing : HasNoSize squares 0 squares_said 2 1 (SizeMissing (key 1 1))
  pub not_missing : ¬ (HasNoSize squares 0 towering_said 2 1 (SizeMissing (key 1 1)))
  pub large : HasNoSize squares 0 towering_said 2 1 (SizeLarge 823)
  pub not_so_large : ¬ (HasNoSize squares 0 towering_said 2 1 (SizeLarge 822))
  pub whole : ReasonsAreTrue squares 0 squares_report
  pub not_whole : ¬ (ReasonsAreTrue squares 0 nonlinear_report)

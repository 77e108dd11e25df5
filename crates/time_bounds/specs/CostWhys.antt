-- Why a rule has no bound on its cost, as sentences about the program.
use Rattle.std.specs.Prelude.{ℕ, List, ℤ}
use Rattle.model.specs.Programs.{Program}
use Rattle.outcome.specs.Reports.{NoSize, SizeUnbounded, SizeHitLimit, SizeMissing, SizeNonlinear, SizeUntimed, SizeLarge}
use Rattle.cert_types.specs.cert_rules.AcceptsSizes.{Side}
use Rattle.cert_types.specs.cert_rules.Gaps.{ScaledPoint}
use Rattle.local_size.specs.Places.{value_on}
use Rattle.bound_fixpoint.specs.Keys.{Bounds, over}
use Rattle.cost_bounds.specs.CostReasons.{prepared_cost, HasNoCostBound, StepIsUnbounded}
use Rattle.time_bounds.specs.SizeWhys.{PassesForms}

-- the cost of one step passes every affine form in the arguments, from the point along the ray: so no affine form in
-- the arguments bounds it on all rational points of the cost rows, which are those of the guard and that the cost is at
-- least 0. A cost of degree 2 or more counts as a variable of its own there, and comparisons of degree 2 or more have
-- no rows
pub record CostPassesForms (p : Program) (t : ℕ) (side : Side) (ray : List ℤ) (kept : ScaledPoint) : Type 0 where
  pub step : StepIsUnbounded p t side ray kept
  pub passes : PassesForms (prepared_cost step.costs).rows (prepared_cost step.costs).left
      (value_on side (prepared_cost step.costs) 1) kept ray

-- what each reason says of a rule whose cost has no bound, where these bounds are known: its cost passes every affine
-- form; a linear program about its cost exceeds a limit; a size that the upper bound of one step reads is missing; the
-- rule has no time; or the composed bound is too large
abbrev pub HasNoCost : Program → ℕ → Bounds → ℕ → NoSize → Type 0
HasNoCost p pivots b t (SizeUnbounded side ray kept) = CostPassesForms p t side ray kept
HasNoCost p pivots b t (SizeHitLimit x) = HasNoCostBound p pivots (over b) t (SizeHitLimit x)
HasNoCost p pivots b t (SizeMissing m) = HasNoCostBound p pivots (over b) t (SizeMissing m)
HasNoCost p pivots b t (SizeNonlinear m) = ⊥
HasNoCost p pivots b t (SizeUntimed u) = HasNoCostBound p pivots (over b) t (SizeUntimed u)
HasNoCost p pivots b t (SizeLarge n) = HasNoCostBound p pivots (over b) t (SizeLarge n)

-- Sizes that grow by a rule without a time, and times that are large, worked out by hand: of k(A) -> l(A) with l(A) ->
-- l(2 * A); of k(A) -> k(A); and of k(A) -> l(A) with l(A) -> l(A - 1) where A >= 1.
use Rattle.outcome.specs.Reports.{TimeLarge, SizeUntimed}
use Rattle.cert_types.specs.cert_rules.WorkedSettings.{counting, doubling}
use Rattle.cert_types.specs.cert_program.WorkedGaps.{looping}
use Rattle.bound_fixpoint.specs.Keys.{Bounds}
use Rattle.time_bounds.specs.SaidBounds.{bounds_said}
use Rattle.time_bounds.specs.SizeWhys.{HasNoSize}
use Rattle.time_bounds.specs.TimeWhys.{HasNoTime}
use Rattle.time_bounds.specs.WorkedReports.{staying_said}
use Rattle.worked_reasons.specs.Programs.{growing_report, untimed_report, timed_report, deep_report}

abbrev pub growing_said : Bounds
growing_said = bounds_said doubling.program growing_report

abbrev pub untimed_said : Bounds
untimed_said = bounds_said doubling.program untimed_report

abbrev pub timed_said : Bounds
timed_said = bounds_said doubling.program timed_report

abbrev pub deep_said : Bounds
deep_said = bounds_said counting.program deep_report

-- within 10 pivots 2 * A and -2 * A bound the doubled value and its negation, so the place after the second rule grows
-- by it, which has no time; and not by the first rule, which has no time either but isn't in the loop, nor where the
-- second one has a time. The place after k(A) -> k(A) is in a loop, and the rule has no time, but nothing
-- grows. Within 10 pivots the function A ranks the rule that counts down, and the time that it composes of a size of
-- 201 levels is large, with 208 nodes and not 207
pub record GrowthsAreWorkedOut : Type 0 where
  pub untimed : HasNoSize doubling.program 10 growing_said 2 1 (SizeUntimed 2)
  pub other_rule : ¬ (HasNoSize doubling.program 10 untimed_said 2 1 (SizeUntimed 1))
  pub timed : ¬ (HasNoSize doubling.program 10 timed_said 2 1 (SizeUntimed 2))
  pub grows_nowhere : ¬ (HasNoSize looping 10 staying_said 1 1 (SizeUntimed 1))
  pub large : HasNoTime counting.program 10 deep_said 2 (TimeLarge 208)
  pub not_so_large : ¬ (HasNoTime counting.program 10 deep_said 2 (TimeLarge 207))

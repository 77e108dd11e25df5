-- Which linear programs exceed a limit, worked out by hand: of k(A) -> k(A); and of k(A) -> k(A * A) and k(A) -> l(A *
-- A), both where A <= 0.
use Rattle.outcome.specs.Reports.{TimeHitLimit, SizeHitLimit}
use Rattle.cert_types.specs.declared.answer.Question.TheVariants as asked
use Rattle.cert_types.specs.cert_program.WorkedGaps.{looping}
use Rattle.bound_fixpoint.specs.Keys.{Bounds}
use Rattle.time_bounds.specs.SizeWhys.{HasNoSize}
use Rattle.time_bounds.specs.ProgramRules.{EmptyHitsLimitSo}
use Rattle.time_bounds.specs.TimeWhys.{HasNoTime}
use Rattle.time_bounds.specs.WorkedReports.{staying_said}
use Rattle.worked_reasons.specs.Programs.{limit_hit_at, squares}

-- within no pivots the linear program for a function that ranks k(A) -> k(A) exceeds the limit of 0, and so does the
-- first one on how large its new value is; the limit is no other one, and within 10 pivots none is exceeded. Where the
-- update is a polynomial no question is needed. The linear program on whether A <= 0 has a point needs a pivot, and the
-- one without rows needs none. The limit that is reported is that of the own question, not that of another rule, place
-- or function
pub record HitsLimitAreWorkedOut : Type 0 where
  pub time : HasNoTime looping 0 staying_said 1 (TimeHitLimit (limit_hit_at 0 (asked.Rank 1)))
  pub other_limit : ¬ (HasNoTime looping 0 staying_said 1 (TimeHitLimit (limit_hit_at 1 (asked.Rank 1))))
  pub other_rank : ¬ (HasNoTime looping 0 staying_said 1 (TimeHitLimit (limit_hit_at 0 (asked.Rank 2))))
  pub enough : ¬ (HasNoTime looping 10 staying_said 1 (TimeHitLimit (limit_hit_at 10 (asked.Rank 1))))
  pub size : (b : Bounds) → HasNoSize looping 0 b 1 1 (SizeHitLimit (limit_hit_at 0 (asked.Local 1 1)))
  pub other_rule : (b : Bounds) → ¬ (HasNoSize looping 0 b 1 1 (SizeHitLimit (limit_hit_at 0 (asked.Local 2 1))))
  pub other_place : (b : Bounds) → ¬ (HasNoSize looping 0 b 1 1 (SizeHitLimit (limit_hit_at 0 (asked.Local 1 2))))
  pub other_size_limit : (b : Bounds) → ¬ (HasNoSize looping 0 b 1 1 (SizeHitLimit (limit_hit_at 1 (asked.Local 1 1))))
  pub nothing_asked : (b : Bounds) → ¬ (HasNoSize squares 0 b 1 1 (SizeHitLimit (limit_hit_at 0 (asked.Local 1 1))))
  pub empty : EmptyHitsLimitSo squares 0 1 (limit_hit_at 0 (asked.Empty 1))
  pub other_empty : ¬ (EmptyHitsLimitSo squares 0 1 (limit_hit_at 0 (asked.Empty 2)))
  pub other_empty_limit : ¬ (EmptyHitsLimitSo squares 0 1 (limit_hit_at 1 (asked.Empty 1)))
  pub second_empty : EmptyHitsLimitSo squares 0 2 (limit_hit_at 0 (asked.Empty 2))
  pub at_its_end : ¬ (EmptyHitsLimitSo looping 0 1 (limit_hit_at 0 (asked.Empty 1)))

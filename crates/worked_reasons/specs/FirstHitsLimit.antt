-- Of several rules the first whose linear program for a point exceeds a limit, worked out by hand: of k(A) -> k(A * A)
-- and k(A) -> l(A * A), both where A <= 0; and of k(A) -> l(A) with l(A) -> l(A) where A >= 1 and A <= 0.
use Rattle.std.specs.Prelude.{[], ◌∷◌}
use Rattle.outcome.specs.Reports.{TimeHitLimit}
use Rattle.cert_types.specs.declared.answer.Question.TheVariants as asked
use Rattle.cert_types.specs.cert_rules.WorkedSettings.{stuck}
use Rattle.time_bounds.specs.TimeWhys.{FirstHitsLimitSo, HasNoTime}
use Rattle.worked_reasons.specs.Programs.{limit_hit_at, squares}
use Rattle.worked_reasons.specs.Squares.{squares_said}

-- within no pivots both rules that square exceed the limit, so the first one is reported and not the second, which is
-- reported after a rule that doesn't exist; after a rule without rows, which exceeds none, the next one is reported.
-- And if the linear program for a function that ranks the rule exceeds the limit itself, the one for a point of the
-- rule isn't reported
pub record FirstHitsLimitAreWorkedOut : Type 0 where
  pub first : FirstHitsLimitSo squares 0 (1 ∷ 2 ∷ []) (limit_hit_at 0 (asked.Empty 1))
  pub not_second : ¬ (FirstHitsLimitSo squares 0 (1 ∷ 2 ∷ []) (limit_hit_at 0 (asked.Empty 2)))
  pub behind_none : FirstHitsLimitSo squares 0 (3 ∷ 2 ∷ []) (limit_hit_at 0 (asked.Empty 2))
  pub behind_point : FirstHitsLimitSo stuck.program 0 (1 ∷ 2 ∷ []) (limit_hit_at 0 (asked.Empty 2))
  pub own_first : ¬ (HasNoTime squares 0 squares_said 1 (TimeHitLimit (limit_hit_at 0 (asked.Empty 1))))

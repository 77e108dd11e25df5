-- The answers for the rules of a program, and the point or the limit hit of one.
use Rattle.std.specs.Prelude.{◌≡◌, ℕ, zero, suc, List, length}
use Rattle.std.specs.Prelude.{Option, Some, None, slice_get}
use Rattle.poly_terms.specs.model.Programs.{Program, Rule, rule_at}
use Rattle.cert_types.specs.guard_prep.Prepared.{prepared}
use Rattle.cert_types.specs.cert_rules.Gaps.{ScaledPoint}
use Rattle.cert_types.specs.declared.answer.LimitHit.{LimitHit}
use Rattle.cert_types.specs.declared.answer.GuardFeasibility.{GuardFeasibility}
use Rattle.cert_types.specs.declared.answer.GuardFeasibility.TheVariants as answers
use Rattle.cert_types.specs.AnswerViews.{scaled_of}
use Rattle.rule_questions.specs.EmptyAnswers.{IsEmptyAnswer}

-- the answer for a rule; rules count from 1
abbrev pub answer_for : List GuardFeasibility → ℕ → Option GuardFeasibility
answer_for empties zero = None
answer_for empties (suc t) = slice_get empties t

-- for each rule of the program, in order, an answer to whether its rows have a point
pub record AreEmptyAnswers (p : Program) (pivots : ℕ) (empties : List GuardFeasibility) : Type 0 where
  pub one_each : length empties ≡ length p.rules
  pub each : (t : ℕ) (r : Rule) (a : GuardFeasibility) → rule_at p t ≡ Some r → answer_for empties t ≡ Some a
      → IsEmptyAnswer (prepared r) t pivots a

-- the point of an answer, if it has one
abbrev pub point_in : Option GuardFeasibility → Option ScaledPoint
point_in None = None
point_in (Some (answers.Empty n)) = None
point_in (Some (answers.Point z)) = Some (scaled_of z)
point_in (Some (answers.OutOfLimits t)) = None

-- the limit hit of an answer, if it is one
abbrev pub limit_hit_in : Option GuardFeasibility → Option LimitHit
limit_hit_in None = None
limit_hit_in (Some (answers.Empty n)) = None
limit_hit_in (Some (answers.Point z)) = None
limit_hit_in (Some (answers.OutOfLimits t)) = Some t

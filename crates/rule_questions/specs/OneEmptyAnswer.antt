-- There is one answer to whether the rows of a rule have a point.
use Rattle.std.specs.Prelude.{◌≡◌, ℕ}
use Rattle.poly_terms.specs.linear_forms.Causes.{cause_of}
use Rattle.cert_types.specs.guard_prep.Prepared.{Prepared}
use Rattle.cert_types.specs.declared.answer.GuardFeasibility.{GuardFeasibility}
use Rattle.cert_types.specs.declared.answer.GuardFeasibility.TheVariants as empties
use Rattle.cert_types.specs.declared.answer.LimitHit.{LimitHit}
use Rattle.cert_types.specs.AnswerViews.{scaled_of}
use Rattle.rule_questions.specs.EmptyAnswers.{IsEmptyAnswer}

-- two limit hits are the same
abbrev pub IsSameLimitHit : LimitHit → LimitHit → Type 0
IsSameLimitHit t u = (t.question ≡ u.question) × (cause_of t.cause ≡ cause_of u.cause)

-- two answers to whether rows have a point are the same
abbrev pub IsSameEmptyAnswer : GuardFeasibility → GuardFeasibility → Type 0
IsSameEmptyAnswer (empties.Empty n) (empties.Empty k) = (n.rule ≡ k.rule) × (n.multipliers.items ≡ k.multipliers.items)
IsSameEmptyAnswer (empties.Empty n) (empties.Point z) = ⊥
IsSameEmptyAnswer (empties.Empty n) (empties.OutOfLimits t) = ⊥
IsSameEmptyAnswer (empties.Point z) (empties.Empty n) = ⊥
IsSameEmptyAnswer (empties.Point z) (empties.Point w) = scaled_of z ≡ scaled_of w
IsSameEmptyAnswer (empties.Point z) (empties.OutOfLimits t) = ⊥
IsSameEmptyAnswer (empties.OutOfLimits t) (empties.Empty n) = ⊥
IsSameEmptyAnswer (empties.OutOfLimits t) (empties.Point z) = ⊥
IsSameEmptyAnswer (empties.OutOfLimits t) (empties.OutOfLimits u) = IsSameLimitHit t u

-- for the rows of a rule and a number of pivots, there is one answer
pub record EmptyAnswersAreOne : Type 0 where
  pub each : (m : Prepared) (rule pivots : ℕ) (a b : GuardFeasibility)
      → IsEmptyAnswer m rule pivots a → IsEmptyAnswer m rule pivots b → IsSameEmptyAnswer a b

-- Answers for a place: a bound on its new value in terms of the values before, or why there is none.
use Rattle.std.specs.Prelude.{◌≡◌, ◌⊎◌, ℕ, true, false, List, ℤ, Some}
use Rattle.simplex_core.specs.linear_forms.Causes.{cause_of}
use Rattle.guard_prep.specs.Prepared.{Prepared}
use Rattle.cert_types.specs.cert_rules.Nodes.{ResultVariable, SideBound, Poly, LocalBound}
use Rattle.cert_types.specs.cert_rules.Gaps.{ScaledPoint}
use Rattle.cert_types.specs.cert_rules.AcceptsSizes.{Side, Up, Low}
use Rattle.outcome.specs.Views.{side_by}
use Rattle.cert_types.specs.Views.{local_of}
use Rattle.cert_types.specs.AnswerViews.{scaled_of}
use Rattle.cert_types.specs.declared.answer.Question.TheVariants as questions
use Rattle.cert_types.specs.declared.answer.LimitHit.{LimitHit}
use Rattle.cert_types.specs.declared.answer.GuardFeasibility.{GuardFeasibility}
use Rattle.rule_questions.specs.RuleAnswers.{point_in, limit_hit_in}
use Rattle.local_size.specs.declared.answer.LocalAnswer.{LocalAnswer}
use Rattle.local_size.specs.declared.answer.LocalAnswer.TheVariants as answers
use Rattle.local_size.specs.Sides.{SideOutcome, SideBoundFound, NoneFound, LimitPassed, SearchHasResult}
use Rattle.local_size.specs.Places.{local_forms, value_on, is_polynomial_at, kinds_of}

-- an answer as plain data: both side bounds; a side that is unbounded, with a ray and a point; or a limit hit
pub data Local : Type 0 where
  HasBound : LocalBound → Local
  IsUnboundedOn : Side → List ℤ → ScaledPoint → Local
  HasHitLimit : LimitHit → Local

abbrev pub local_answer_of : LocalAnswer → Local
local_answer_of (answers.Bound l) = HasBound (local_of l)
local_answer_of (answers.UnboundedSide l) = IsUnboundedOn (side_by l.up) l.ray.items (scaled_of l.kept)
local_answer_of (answers.OutOfLimits t) = HasHitLimit t

-- the questions for a side of a place have this result
abbrev pub SideHasResult : Prepared → ℕ → ℕ → Side → SideOutcome → Type 0
SideHasResult m place pivots side x =
    SearchHasResult (local_forms m) (value_on side m place) pivots (kinds_of m place) x

-- the polynomial itself bounds both sides; no question is needed
abbrev pub both_polynomial : LocalBound
both_polynomial = record { up = Poly; low = Poly }

-- both sides have a side bound
pub record HasSideBounds (m : Prepared) (place pivots : ℕ) (l : LocalBound) : Type 0 where
  pub asked : is_polynomial_at m place ≡ false
  pub up : SideHasResult m place pivots Up (SideBoundFound l.up)
  pub low : SideHasResult m place pivots Low (SideBoundFound l.low)

-- the questions for a side exceed no limit
abbrev pub PassesNone : Prepared → ℕ → ℕ → Side → Type 0
PassesNone m place pivots side = ((side_bound : SideBound) × SideHasResult m place pivots side (SideBoundFound side_bound))
    ⊎ ((ray : List ℤ) × SideHasResult m place pivots side (NoneFound ray))

-- a side has no form: the upper side, and the lower side hits no limit; or the lower side, and the upper side has a
-- side bound
abbrev pub LacksForm : Prepared → ℕ → ℕ → Side → List ℤ → Type 0
LacksForm m place pivots Up ray = SideHasResult m place pivots Up (NoneFound ray) × PassesNone m place pivots Low
LacksForm m place pivots Low ray = ((side_bound : SideBound) × SideHasResult m place pivots Up (SideBoundFound side_bound))
    × SideHasResult m place pivots Low (NoneFound ray)

-- a side has no form, the upper side first, and the rows of the rule have a point
pub record IsUnboundedPlace (m : Prepared) (place pivots : ℕ) (empty : GuardFeasibility) (side : Side) (ray : List ℤ)
    (kept : ScaledPoint) : Type 0 where
  pub asked : is_polynomial_at m place ≡ false
  pub lacks : LacksForm m place pivots side ray
  pub point : point_in (Some empty) ≡ Some kept

-- a question for the place exceeds a limit; it is the first that does, and the upper side comes first
pub record IsOwnLimitHit (m : Prepared) (result_variable : ResultVariable) (pivots : ℕ) (t : LimitHit) : Type 0 where
  pub asked : is_polynomial_at m result_variable.place ≡ false
  pub question : t.question ≡ questions.Local result_variable.rule result_variable.place
  pub first : SideHasResult m result_variable.place pivots Up (LimitPassed (cause_of t.cause))
      ⊎ (PassesNone m result_variable.place pivots Up × SideHasResult m result_variable.place pivots Low (LimitPassed (cause_of t.cause)))

-- no question for the place exceeds a limit, a side has no form, and the feasibility question of the rule exceeded a
-- limit
pub record IsFeasibilityLimitHit (m : Prepared) (place pivots : ℕ) (empty : GuardFeasibility) (t : LimitHit) : Type 0 where
  pub asked : is_polynomial_at m place ≡ false
  pub lacks : (side : Side) × ((ray : List ℤ) × LacksForm m place pivots side ray)
  pub limit_hit : limit_hit_in (Some empty) ≡ Some t

-- the meaning of the answer for a place within a number of pivots, given the answer about the rule's feasibility: both
-- side bounds are the update's own polynomial, or those of the questions for the sides; or a side is unbounded; or a
-- limit was hit
abbrev pub IsLocal : Prepared → ResultVariable → ℕ → GuardFeasibility → Local → Type 0
IsLocal m result_variable pivots empty (HasBound l) = ((is_polynomial_at m result_variable.place ≡ true) × (l ≡ both_polynomial))
    ⊎ HasSideBounds m result_variable.place pivots l
IsLocal m result_variable pivots empty (IsUnboundedOn side ray kept) = IsUnboundedPlace m result_variable.place pivots empty side ray kept
IsLocal m result_variable pivots empty (HasHitLimit t) = IsOwnLimitHit m result_variable pivots t ⊎ IsFeasibilityLimitHit m result_variable.place pivots empty t

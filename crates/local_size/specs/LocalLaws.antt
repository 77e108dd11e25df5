-- Laws of the answers for places.
use Rattle.std.specs.Prelude.{◌≡◌, ◌↔◌, ℕ, ◌≤◌, true, List, length, ℤ, pos, nat_abs, Some}
use Rattle.std.specs.List.{All}
use Rattle.poly_terms.specs.model.Programs.{Program, Rule, rule_at}
use Rattle.simplex_core.specs.linear_forms.Forms.{at}
use Rattle.simplex_core.specs.linear_forms.Limits.{point_limit}
use Rattle.simplex_core.specs.linear_forms.Points.{IsPoint}
use Rattle.cert_types.specs.rule_forms.Kinds.{Affine}
use Rattle.cert_types.specs.rule_forms.Bounds.{HasNone, IsFirstOf, IsUnboundedRay}
use Rattle.cert_types.specs.rule_forms.Laws.{HasPoint}
use Rattle.guard_prep.specs.its_model.Valid.{IsValid}
use Rattle.guard_prep.specs.Prepared.{Prepared, prepared}
use Rattle.cert_types.specs.cert_rules.Nodes.{ResultVariable, SideBound, Linear, Poly, LocalBound}
use Rattle.cert_types.specs.cert_rules.Gaps.{ScaledPoint}
use Rattle.cert_types.specs.cert_rules.AcceptsSizes.{IsResultVariable, HasMemberShape, AcceptsUp, AcceptsLow, Side, Up, Low}
use Rattle.cert_types.specs.cert_program.Setting.{setting_of}
use Rattle.cert_types.specs.declared.answer.GuardFeasibility.{GuardFeasibility}
use Rattle.cert_types.specs.declared.answer.LimitHit.{LimitHit}
use Rattle.rule_questions.specs.EmptyAnswers.{IsEmptyAnswer}
use Rattle.rule_questions.specs.OneEmptyAnswer.{IsSameEmptyAnswer}
use Rattle.local_size.specs.Places.{value_on, is_polynomial_at, kinds_of}
use Rattle.local_size.specs.LocalAnswers.{Local, HasBound, IsUnboundedOn, HasHitLimit, IsLocal}

-- the result variable is a place of this rule of the program
pub record IsResultVariableOf (p : Program) (result_variable : ResultVariable) (r : Rule) : Type 0 where
  pub numbered : rule_at p result_variable.rule ≡ Some r
  pub is_result_variable : IsResultVariable p result_variable

-- both side bounds of an answer are accepted for the place: their numbers are within the limits, and the rows imply
-- them, or the update is the polynomial itself
pub record LocalBoundsAreAccepted : Type 0 where
  pub shape : (p : Program) (r : Rule) (result_variable : ResultVariable) (pivots : ℕ) (empty : GuardFeasibility) (l : LocalBound)
      → IsValid p → IsResultVariableOf p result_variable r → IsLocal (prepared r) result_variable pivots empty (HasBound l)
      → HasMemberShape (setting_of p) (record { result_variable = result_variable; local = l })
  pub up : (p : Program) (r : Rule) (result_variable : ResultVariable) (pivots : ℕ) (empty : GuardFeasibility) (l : LocalBound)
      → IsValid p → IsResultVariableOf p result_variable r → IsLocal (prepared r) result_variable pivots empty (HasBound l)
      → AcceptsUp (setting_of p) (record { result_variable = result_variable; local = l })
  pub low : (p : Program) (r : Rule) (result_variable : ResultVariable) (pivots : ℕ) (empty : GuardFeasibility) (l : LocalBound)
      → IsValid p → IsResultVariableOf p result_variable r → IsLocal (prepared r) result_variable pivots empty (HasBound l)
      → AcceptsLow (setting_of p) (record { result_variable = result_variable; local = l })

-- a side bound is the first one of its side: the polynomial, if the update has degree 2 or more and contains only left
-- variables; else a form of least weight of the first kind, in order, that has a form which is at least the value
abbrev pub IsFirstSideBound : Prepared → ℕ → Side → SideBound → Type 0
IsFirstSideBound m place side (Linear den form multipliers) =
    ¬ (is_polynomial_at m place ≡ true) × IsFirstOf m.rows m.left (value_on side m place) (kinds_of m place) form den
IsFirstSideBound m place side Poly = is_polynomial_at m place ≡ true

-- if the rule has a point, each side bound is the first one of its side
pub record LocalBoundsAreFirst : Type 0 where
  pub each : (r : Rule) (result_variable : ResultVariable) (pivots : ℕ) (empty : GuardFeasibility) (l : LocalBound) (p : Program)
      → IsValid p → IsResultVariableOf p result_variable r → IsLocal (prepared r) result_variable pivots empty (HasBound l) → HasPoint (prepared r).rows
      → IsFirstSideBound (prepared r) result_variable.place Up l.up × IsFirstSideBound (prepared r) result_variable.place Low l.low

-- a side of a place is unbounded: its update isn't a polynomial that bounds it, the rule has a point, and along some
-- ray the value on this side increases while no left argument changes
pub record IsUnboundedSide (m : Prepared) (place : ℕ) (side : Side) : Type 0 where
  pub asked : ¬ (is_polynomial_at m place ≡ true)
  pub point : HasPoint m.rows
  pub z : ℕ → ℤ
  pub ray : IsUnboundedRay m.rows m.left (value_on side m place) z

-- a question of the place hits a limit
pub record PlaceHitsLimit (m : Prepared) (result_variable : ResultVariable) (pivots : ℕ) (empty : GuardFeasibility) : Type 0 where
  pub limit_hit : LimitHit
  pub hit_limit : IsLocal m result_variable pivots empty (HasHitLimit limit_hit)

-- an unbounded answer has a ray of that side and a point, with numbers within the limit, and no affine form bounds the
-- side
pub record UnboundedAnswersAreUnbounded : Type 0 where
  pub ray : (p : Program) (r : Rule) (result_variable : ResultVariable) (pivots : ℕ) (empty : GuardFeasibility) (side : Side) (ray : List ℤ)
      (kept : ScaledPoint) → IsValid p → IsResultVariableOf p result_variable r → IsEmptyAnswer (prepared r) result_variable.rule pivots empty
      → IsLocal (prepared r) result_variable pivots empty (IsUnboundedOn side ray kept)
      → IsUnboundedRay (prepared r).rows (prepared r).left (value_on side (prepared r) result_variable.place) (at ray)
      × IsPoint (prepared r).rows (at kept.parts) (pos kept.den)
  pub limits : (p : Program) (r : Rule) (result_variable : ResultVariable) (pivots : ℕ) (empty : GuardFeasibility) (side : Side) (ray : List ℤ)
      (kept : ScaledPoint) → IsValid p → IsResultVariableOf p result_variable r
      → IsLocal (prepared r) result_variable pivots empty (IsUnboundedOn side ray kept)
      → (length ray ≡ (prepared r).unknowns) × All (λ a. nat_abs a ≤ point_limit) ray
  pub none : (p : Program) (r : Rule) (result_variable : ResultVariable) (pivots : ℕ) (empty : GuardFeasibility) (side : Side) (ray : List ℤ)
      (kept : ScaledPoint) → IsValid p → IsResultVariableOf p result_variable r → IsEmptyAnswer (prepared r) result_variable.rule pivots empty
      → IsLocal (prepared r) result_variable pivots empty (IsUnboundedOn side ray kept)
      → HasNone (prepared r).rows (prepared r).left (value_on side (prepared r) result_variable.place) Affine

-- the answer is that a side is unbounded
abbrev pub SaysUnbounded : Local → Type 0
SaysUnbounded (HasBound l) = ⊥
SaysUnbounded (IsUnboundedOn side ray kept) = Unit {0}
SaysUnbounded (HasHitLimit t) = ⊥

abbrev pub SaysHitLimit : Local → Type 0
SaysHitLimit (HasBound l) = ⊥
SaysHitLimit (IsUnboundedOn side ray kept) = ⊥
SaysHitLimit (HasHitLimit t) = Unit {0}

-- the answer is unbounded exactly if a side of the place is unbounded and no question hits a limit; and it is a limit
-- hit exactly if one does
pub record LocalAnswersAreExact : Type 0 where
  pub unbounded : (p : Program) (r : Rule) (result_variable : ResultVariable) (pivots : ℕ) (empty : GuardFeasibility) (x : Local) → IsValid p
      → IsResultVariableOf p result_variable r → IsEmptyAnswer (prepared r) result_variable.rule pivots empty → IsLocal (prepared r) result_variable pivots empty x
      → SaysUnbounded x
      ↔ (((side : Side) × IsUnboundedSide (prepared r) result_variable.place side) × (¬ PlaceHitsLimit (prepared r) result_variable pivots empty))
  pub hit_limit : (m : Prepared) (result_variable : ResultVariable) (pivots : ℕ) (empty : GuardFeasibility) (x : Local)
      → IsLocal m result_variable pivots empty x → SaysHitLimit x ↔ PlaceHitsLimit m result_variable pivots empty

-- a place has one answer within a number of pivots
pub record LocalAnswersAreOne : Type 0 where
  pub each : (m : Prepared) (result_variable : ResultVariable) (pivots : ℕ) (d e : GuardFeasibility) (x y : Local) → IsSameEmptyAnswer d e
      → IsLocal m result_variable pivots d x → IsLocal m result_variable pivots e y → x ≡ y

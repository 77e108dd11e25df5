-- The answers on the places of a program within a number of pivots: those of `local`, and which node gives a size.
use Rattle.std.specs.Prelude.{◌≡◌, ◌⊎◌, ◌↔◌, ℕ, Bool, true, false, List, [], ◌∷◌, map, ℤ, Option, Some, None}
use Rattle.std.specs.List.{All}
use Rattle.model.specs.Programs.{Program, Rule, rule_at}
use Rattle.guard_prep.specs.Prepared.{Prepared, prepared}
use Rattle.outcome.specs.Reports.{NoSize, SizeUnbounded, SizeHitLimit}
use Rattle.cert_types.specs.cert_rules.Nodes.{ResultVariable, LocalBound, Member}
use Rattle.cert_types.specs.cert_rules.AcceptsPlain.{IsRule}
use Rattle.cert_types.specs.cert_rules.AcceptsSizes.{AcceptsSpread, AcceptsCycle, Side}
use Rattle.cert_types.specs.cert_rules.Checks.{spread_checks, cycle_checks}
use Rattle.cert_types.specs.cert_rules.Known.{Table}
use Rattle.cert_types.specs.cert_rules.Reasons.{Reason, IsFirstAmong}
use Rattle.cert_types.specs.cert_rules.Setting.{Setting}
use Rattle.cert_types.specs.declared.answer.LimitHit.{LimitHit}
use Rattle.local_size.specs.LocalAnswers.{Local, HasBound, IsUnboundedOn, HasHitLimit, both_polynomial, HasSideBounds, LacksForm}
use Rattle.local_size.specs.LocalAnswers.{IsOwnLimitHit}
use Rattle.local_size.specs.Places.{is_polynomial_at}
use Rattle.rvg_components.specs.Flows.{Locals, loops}
use Rattle.bound_fixpoint.specs.Keys.{IsPlace, key}
use Rattle.bound_fixpoint.specs.Derivations.{SpreadBy, CycleBy}
use Rattle.bound_fixpoint.specs.Searches.{HasPoint, SizeOutcome, SizedBy, Unsized}
use Rattle.bound_fixpoint.specs.Components.{IsDead}
use Rattle.bound_fixpoint.specs.Right.{IsReasonFor}
use Rattle.time_bounds.specs.ProgramRules.{IsEmptinessOf, IsEmptyRule, EmptyHitsLimitSo}

-- the live rules: those that aren't known never to run
pub record AreLive (p : Program) (pivots : ℕ) (is_live : ℕ → Bool) : Type 0 where
  pub is_empty : ℕ → Bool
  pub empty : (t : ℕ) → IsRule p t → (is_empty t ≡ true) ↔ IsEmptyRule p pivots t
  pub live : (t : ℕ) → (is_live t ≡ true) ↔ (IsRule p t × (¬ IsDead p is_empty t))

-- no linear program of a place exceeds a limit, and those of one side give no form
pub record LacksSide (m : Prepared) (place pivots : ℕ) (side : Side) (ray : List ℤ) : Type 0 where
  pub not_polynomial : is_polynomial_at m place ≡ false
  pub lacks : LacksForm m place pivots side ray

-- the new value is its own bound, as a polynomial in the arguments; or both its sides have forms
abbrev pub HasBounds : Prepared → ℕ → ℕ → LocalBound → Type 0
HasBounds m place pivots l =
    ((is_polynomial_at m place ≡ true) × (l ≡ both_polynomial)) ⊎ HasSideBounds m place pivots l

-- no linear program of a place exceeds a limit, and on a side none gives a form; but it isn't known that the rule has a
-- point: the linear program for one exceeds this limit
pub record PointHitsLimitSo (p : Program) (pivots : ℕ) (m : Prepared) (result_variable : ResultVariable) (x : LimitHit) : Type 0 where
  pub side : Side
  pub ray : List ℤ
  pub lacks : LacksSide m result_variable.place pivots side ray
  pub hits_limit : EmptyHitsLimitSo p pivots result_variable.rule x

-- the first linear program of a place that exceeds a limit passes this one, or the one for a point does
abbrev pub HitsLimitAt : Program → ℕ → Prepared → ResultVariable → LimitHit → Type 0
HitsLimitAt p pivots m result_variable x = IsOwnLimitHit m result_variable pivots x ⊎ PointHitsLimitSo p pivots m result_variable x

-- the answer for a place: its bounds; a side without a form, and a point of the rule; or the limit that is exceeded
abbrev pub IsAnswerAt : Program → ℕ → Prepared → ResultVariable → Local → Type 0
IsAnswerAt p pivots m result_variable (HasBound l) = HasBounds m result_variable.place pivots l
IsAnswerAt p pivots m result_variable (IsUnboundedOn side ray kept) =
    LacksSide m result_variable.place pivots side ray × IsEmptinessOf p pivots result_variable.rule (HasPoint kept)
IsAnswerAt p pivots m result_variable (HasHitLimit x) = HitsLimitAt p pivots m result_variable x

-- the answer for a place after a rule
pub record IsLocalOf (p : Program) (pivots : ℕ) (t i : ℕ) (x : Local) : Type 0 where
  pub rule : Rule
  pub numbered : rule_at p t ≡ Some rule
  pub place : IsPlace p t i
  pub local : IsAnswerAt p pivots (prepared rule) (key t i) x

-- the same for each place after a live rule
abbrev pub AreLocals : Program → ℕ → (ℕ → Bool) → Locals → Type 0
AreLocals p pivots is_live local =
    (t i : ℕ) → is_live t ≡ true → IsPlace p t i → IsLocalOf p pivots t i (local t i)

-- the same for each of these places
abbrev pub AreLocalsOf : Program → ℕ → Locals → List ResultVariable → Type 0
AreLocalsOf p pivots local result_variables = All (λ m. IsLocalOf p pivots m.rule m.place (local m.rule m.place)) result_variables

-- the reason of a place with an unbounded side or a limit hit
abbrev pub unbounded_reason : Local → Option NoSize
unbounded_reason (HasBound l) = None
unbounded_reason (IsUnboundedOn side ray kept) = Some (SizeUnbounded side ray kept)
unbounded_reason (HasHitLimit t) = None

abbrev pub limit_hit_reason : Local → Option NoSize
limit_hit_reason (HasBound l) = None
limit_hit_reason (IsUnboundedOn side ray kept) = None
limit_hit_reason (HasHitLimit t) = Some (SizeHitLimit t)

-- the first of two reasons
abbrev pub or_else : Option NoSize → Option NoSize → Option NoSize
or_else None other = other
or_else (Some why) other = Some why

-- the reason of the first of these places that has one
abbrev pub first_reason : (Local → Option NoSize) → Locals → List ResultVariable → Option NoSize
first_reason reason local [] = None
first_reason reason local (m ∷ result_variables) = or_else (reason (local m.rule m.place)) (first_reason reason local result_variables)

-- why the places have no side bounds: the first with an unbounded side, or else the first with a limit hit
abbrev pub lacks_side_bounds : Locals → List ResultVariable → Option NoSize
lacks_side_bounds local result_variables = or_else (first_reason unbounded_reason local result_variables) (first_reason limit_hit_reason local result_variables)

-- the places with their local bounds
pub record AreMembers (local : Locals) (result_variables : List ResultVariable) (members : List Member) : Type 0 where
  pub result_variables_are : result_variables ≡ map (λ m. m.result_variable) members
  pub bounds_are : All (λ m. local m.result_variable.rule m.result_variable.place ≡ HasBound m.local) members

-- the answer for a component that doesn't loop: the node that gives its only place a size, or the first check that
-- fails
abbrev pub AnswersAlone : Setting → Table → List Member → SizeOutcome → Type 0
AnswersAlone s tab [] answer = ⊥
AnswersAlone s tab (m ∷ []) (SizedBy node) = (node ≡ SpreadBy m) × AcceptsSpread s tab m
AnswersAlone s tab (m ∷ []) (Unsized why) = (r : Reason) × IsReasonFor why r × IsFirstAmong (spread_checks s tab m) r
AnswersAlone s tab (m ∷ n ∷ members) answer = ⊥

-- the answer for a component that loops
abbrev pub AnswersLoop : Setting → Table → List Member → SizeOutcome → Type 0
AnswersLoop s tab members (SizedBy node) = (node ≡ CycleBy members) × AcceptsCycle s tab members
AnswersLoop s tab members (Unsized why) =
    (r : Reason) × IsReasonFor why r × IsFirstAmong (cycle_checks s tab members) r

abbrev pub AnswersMembers : Bool → Setting → Table → List Member → SizeOutcome → Type 0
AnswersMembers false s tab members answer = AnswersAlone s tab members answer
AnswersMembers true s tab members answer = AnswersLoop s tab members answer

-- the answer for a component over a table: that one of its places has an unbounded side or a limit hit; else the node
-- that gives it a size, or the first check that fails
pub record IsJudged (s : Setting) (tab : Table) (local : Locals) (result_variables : List ResultVariable) (answer : SizeOutcome)
    : Type 0 where
  pub members : List Member
  pub are_members : AreMembers local result_variables members
  pub sizing : AnswersMembers (loops s local result_variables) s tab members answer

abbrev pub AnswersPlaces : Setting → Table → Locals → List ResultVariable → Option NoSize → SizeOutcome → Type 0
AnswersPlaces s tab local result_variables (Some why) answer = answer ≡ Unsized why
AnswersPlaces s tab local result_variables None answer = IsJudged s tab local result_variables answer

-- Why a cost isn't bounded: what each reason says of the program.
use Rattle.std.specs.Prelude.{◌≡◌, ◌⊎◌, ℕ, ◌-◌, ◌≤◌, true, false, List, length, ℤ, pos, Some, None}
use Rattle.model.specs.Costs.{HasCost, cost_rule}
use Rattle.model.specs.Entries.{is_in}
use Rattle.model.specs.Paths.{pre}
use Rattle.model.specs.Programs.{Program}
use Rattle.its_model.specs.linear_forms.Causes.{cause_of}
use Rattle.its_model.specs.linear_forms.Forms.{at}
use Rattle.its_model.specs.linear_forms.Points.{IsPoint}
use Rattle.guard_prep.specs.Prepared.{Prepared, prepared}
use Rattle.cert_types.specs.cert_program.Setting.{setting_of}
use Rattle.cert_types.specs.rule_forms.Bounds.{HasNone, IsUnboundedRay}
use Rattle.cert_types.specs.rule_forms.Kinds.{Affine}
use Rattle.cert_types.specs.cert_rules.AcceptsSizes.{Side, Up, Low}
use Rattle.cert_types.specs.cert_rules.Checks.{large_nodes}
use Rattle.cert_types.specs.cert_rules.ComposedSizes.{reads}
use Rattle.cert_types.specs.cert_rules.Gaps.{ScaledPoint}
use Rattle.cert_types.specs.cert_rules.Known.{Table}
use Rattle.cert_types.specs.cert_rules.Limits.{IsSmallComposed}
use Rattle.cert_types.specs.cert_rules.Nodes.{ResultVariable, SideBound, LocalBound}
use Rattle.cert_types.specs.declared.answer.GuardFeasibility.TheVariants as feasible
use Rattle.cert_types.specs.declared.answer.LimitHit.{LimitHit}
use Rattle.cert_types.specs.declared.answer.Question.TheVariants as questions
use Rattle.rank_search.specs.rule_questions.EmptyAnswers.{IsEmptyAnswer}
use Rattle.outcome.specs.Reports.{NoSize, SizeUnbounded, SizeHitLimit, SizeMissing, SizeNonlinear, SizeUntimed}
use Rattle.outcome.specs.Reports.{SizeLarge}
use Rattle.local_size.specs.LocalAnswers.{both_polynomial, HasSideBounds, LacksForm, PassesNone, SideHasResult}
use Rattle.local_size.specs.Places.{value_on, is_polynomial_at}
use Rattle.local_size.specs.Sides.{LimitPassed}
use Rattle.size_nodes.specs.Needs.{first_missing}
use Rattle.cost_bounds.specs.CostOutcomes.{composed_bound, question, sizes_read}

-- the prepared cost rule of a rule with a cost
abbrev pub prepared_cost : {p : Program} {t : ℕ} → HasCost p t → Prepared
prepared_cost costs = prepared (cost_rule costs.rule costs.cost)

-- the cost of one step passes every affine form in the arguments: from the point of the cost rows along the ray, on
-- which no argument moves and the cost rises. And it isn't a polynomial of degree 2 or more in the arguments alone,
-- which would bound it. The ray and the point have a number for each variable of the cost rule
pub record StepIsUnbounded (p : Program) (t : ℕ) (side : Side) (ray : List ℤ) (point : ScaledPoint) : Type 0 where
  pub costs : HasCost p t
  pub not_polynomial : is_polynomial_at (prepared_cost costs) 1 ≡ false
  pub ray_length : length ray ≡ (prepared_cost costs).unknowns
  pub point_length : length point.parts ≡ (prepared_cost costs).unknowns
  pub from : IsPoint (prepared_cost costs).rows (at point.parts) (pos point.den)
  pub along : IsUnboundedRay (prepared_cost costs).rows (prepared_cost costs).left
      (value_on side (prepared_cost costs) 1) (at ray)
  pub none : HasNone (prepared_cost costs).rows (prepared_cost costs).left (value_on side (prepared_cost costs) 1)
      Affine

-- the first linear program that exceeds a limit, in the order upper side, lower side, point of the cost rows, exceeds this
-- one; the one for the point is asked only where a side has no form
abbrev pub ExceedsFirst : Prepared → ℕ → ℕ → LimitHit → Type 0
ExceedsFirst m t pivots x = SideHasResult m 1 pivots Up (LimitPassed (cause_of x.cause))
    ⊎ ((PassesNone m 1 pivots Up × SideHasResult m 1 pivots Low (LimitPassed (cause_of x.cause)))
    ⊎ (((side : Side) × ((ray : List ℤ) × LacksForm m 1 pivots side ray))
    × ((y : LimitHit) × IsEmptyAnswer m t pivots (feasible.OutOfLimits y) × (y.cause ≡ x.cause))))

-- the question of a limit is the cost of the rule, and a linear program about this cost exceeds the limit
pub record StepExceeds (p : Program) (pivots t : ℕ) (x : LimitHit) : Type 0 where
  pub costs : HasCost p t
  pub question : x.question ≡ questions.Cost t
  pub not_polynomial : is_polynomial_at (prepared_cost costs) 1 ≡ false
  pub exceeds : ExceedsFirst (prepared_cost costs) t pivots x

-- the searches find this upper bound on the cost of one step: the cost itself, where it is a polynomial of degree 2 or
-- more in the arguments alone; else the first form on the upper side, where the lower side has one too
pub record IsStepBound (p : Program) (pivots t : ℕ) (side_bound : SideBound) : Type 0 where
  pub costs : HasCost p t
  pub local : LocalBound
  pub up : local.up ≡ side_bound
  pub bounds : ((is_polynomial_at (prepared_cost costs) 1 ≡ true) × (local ≡ both_polynomial))
      ⊎ HasSideBounds (prepared_cost costs) 1 pivots local

-- the bound depends on a size that isn't known: the rule of the place can come just before, and the upper bound of one
-- step reads the place; and it is the first such place
pub record ReadsUnsized (p : Program) (pivots : ℕ) (tab : Table) (t : ℕ) (m : ResultVariable) : Type 0 where
  pub side_bound : SideBound
  pub bound : IsStepBound p pivots t side_bound
  pub place : 1 ≤ m.place
  pub before : is_in m.rule (pre p t) ≡ true
  pub reads : reads ((setting_of p).cost_poly t) side_bound (m.place - 1) ≡ true
  pub missing : tab.size m.rule m.place ≡ None
  pub first : first_missing tab (sizes_read (question p tab t) side_bound) ≡ Some m

-- one step has an upper bound, each size that it reads is known, and the rule has no time
pub record LacksTime (p : Program) (pivots : ℕ) (tab : Table) (t u : ℕ) : Type 0 where
  pub side_bound : SideBound
  pub bound : IsStepBound p pivots t side_bound
  pub sized : first_missing tab (sizes_read (question p tab t) side_bound) ≡ None
  pub own : u ≡ t
  pub missing : tab.time t ≡ None

-- the bound that is composed of known times and sizes is large, and has this many nodes
pub record CostIsLarge (p : Program) (pivots : ℕ) (tab : Table) (t n : ℕ) : Type 0 where
  pub side_bound : SideBound
  pub bound : IsStepBound p pivots t side_bound
  pub sized : first_missing tab (sizes_read (question p tab t) side_bound) ≡ None
  pub large : ¬ (IsSmallComposed (setting_of p).rewrite (composed_bound (question p tab t) side_bound))
  pub nodes : n ≡ large_nodes (setting_of p).rewrite (composed_bound (question p tab t) side_bound)

-- what each reason says of a rule whose cost isn't bounded over a table
abbrev pub HasNoCostBound : Program → ℕ → Table → ℕ → NoSize → Type 0
HasNoCostBound p pivots tab t (SizeUnbounded side ray kept) = StepIsUnbounded p t side ray kept
HasNoCostBound p pivots tab t (SizeHitLimit x) = StepExceeds p pivots t x
HasNoCostBound p pivots tab t (SizeMissing m) = ReadsUnsized p pivots tab t m
HasNoCostBound p pivots tab t (SizeNonlinear m) = ⊥
HasNoCostBound p pivots tab t (SizeUntimed u) = LacksTime p pivots tab t u
HasNoCostBound p pivots tab t (SizeLarge n) = CostIsLarge p pivots tab t n

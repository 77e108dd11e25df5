-- The bound on the cost of a rule over known times and sizes, or why there is none: the first outcome that applies.
use Rattle.std.specs.Prelude.{◌≡◌, ◌⊎◌, ℕ, Bool, true, false, List, Option, Some, None}
use Rattle.model.specs.Bounds.{Bound}
use Rattle.model.specs.Costs.{HasCost, cost_rule}
use Rattle.model.specs.Paths.{pre}
use Rattle.model.specs.Programs.{Program}
use Rattle.guard_prep.specs.Prepared.{prepared}
use Rattle.cert_types.specs.cert_program.Setting.{setting_of}
use Rattle.cert_types.specs.cert_rules.AcceptsCosts.{cost_result_variable, side_bound_cost}
use Rattle.cert_types.specs.cert_rules.Checks.{large_nodes, needed_at_cost}
use Rattle.cert_types.specs.cert_rules.Known.{Table, is_zero_bound}
use Rattle.cert_types.specs.cert_rules.Limits.{IsSmallComposed}
use Rattle.cert_types.specs.cert_rules.Nodes.{ResultVariable, SideBound, CostBy, EmptyCost, NeverCost, SideBoundCost}
use Rattle.cert_types.specs.declared.answer.GuardFeasibility.{GuardFeasibility}
use Rattle.cert_types.specs.declared.answer.GuardFeasibility.TheVariants as feasible
use Rattle.cert_types.specs.declared.answer.Question.TheVariants as questions
use Rattle.rank_search.specs.rule_questions.EmptyAnswers.{IsEmptyAnswer}
use Rattle.local_size.specs.LocalAnswers.{Local, HasBound, IsUnboundedOn, HasHitLimit, IsLocal}
use Rattle.outcome.specs.Reports.{NoSize, SizeUnbounded, SizeHitLimit, SizeMissing, SizeUntimed, SizeLarge}
use Rattle.size_nodes.specs.Needs.{first_missing}

-- the cost of a rule is bounded, as this certifies; or it isn't, for a reason as for sizes, where the cost of one step
-- stands for the value at a place
pub data CostOutcome : Type 0 where
  BoundedBy : CostBy → CostOutcome
  NotBounded : NoSize → CostOutcome

-- the cost that is to be bounded: that of the rule with this number, over a table of known times and sizes
pub record CostQuestion : Type 0 where
  pub program : Program
  pub table : Table
  pub rule : ℕ

abbrev pub question : Program → Table → ℕ → CostQuestion
question p tab t = record { program = p; table = tab; rule = t }

-- the sizes that an upper bound on the cost of one step reads, after each rule that can come before
abbrev pub sizes_read : CostQuestion → SideBound → List ResultVariable
sizes_read q side_bound = needed_at_cost (setting_of q.program) q.rule side_bound (pre q.program q.rule)

-- the bound that an upper bound on the cost of one step composes: the rule's time, times its maximum at the sizes
-- before
abbrev pub composed_bound : CostQuestion → SideBound → Bound
composed_bound q side_bound = side_bound_cost (setting_of q.program) q.table q.rule side_bound

-- the outcome of a composed bound: it is small, and bounds the cost; or it is too large, with this many nodes
abbrev pub ComposesTo : CostQuestion → SideBound → CostOutcome → Type 0
ComposesTo q side_bound o =
    (IsSmallComposed (setting_of q.program).rewrite (composed_bound q side_bound)
    × (o ≡ BoundedBy (SideBoundCost side_bound)))
    ⊎ ((¬ (IsSmallComposed (setting_of q.program).rewrite (composed_bound q side_bound)))
    × (o ≡ NotBounded (SizeLarge (large_nodes (setting_of q.program).rewrite (composed_bound q side_bound)))))

-- if the rule has no time, this is the reason
abbrev pub TimedTo : CostQuestion → SideBound → Option Bound → CostOutcome → Type 0
TimedTo q side_bound None o = o ≡ NotBounded (SizeUntimed q.rule)
TimedTo q side_bound (Some time) o = ComposesTo q side_bound o

-- if a size that is read is missing, the first such size is the reason
abbrev pub SizedTo : CostQuestion → SideBound → Option ResultVariable → CostOutcome → Type 0
SizedTo q side_bound (Some missing) o = o ≡ NotBounded (SizeMissing missing)
SizedTo q side_bound None o = TimedTo q side_bound (q.table.time q.rule) o

-- if the cost of one step is unbounded, or its search exceeds a limit, this is the reason; the question of the limit is
-- the cost of the rule
abbrev pub StepTo : CostQuestion → Local → CostOutcome → Type 0
StepTo q (HasBound local) o = SizedTo q local.up (first_missing q.table (sizes_read q local.up)) o
StepTo q (IsUnboundedOn side ray kept) o = o ≡ NotBounded (SizeUnbounded side ray kept)
StepTo q (HasHitLimit x) o =
    o ≡ NotBounded (SizeHitLimit (record { question = questions.Cost q.rule; cause = x.cause }))

-- a time is known, and is 0
abbrev pub is_zero_time : Option Bound → Bool
is_zero_time None = false
is_zero_time (Some time) = is_zero_bound time

-- if the rule's time is 0, its steps cost nothing; else the outcome is by the answer on the cost of one step
abbrev pub RunsTo : CostQuestion → (Local → Type 0) → Bool → CostOutcome → Type 0
RunsTo q IsStep true o = o ≡ BoundedBy NeverCost
RunsTo q IsStep false o = (step : Local) × IsStep step × StepTo q step o

-- if the rows of the cost rule have no point, the rule's steps cost nothing
abbrev pub FeasibleTo : CostQuestion → (Local → Type 0) → GuardFeasibility → CostOutcome → Type 0
FeasibleTo q IsStep (feasible.Empty node) o = o ≡ BoundedBy (EmptyCost node.multipliers.items)
FeasibleTo q IsStep (feasible.Point z) o = RunsTo q IsStep (is_zero_time (q.table.time q.rule)) o
FeasibleTo q IsStep (feasible.OutOfLimits x) o = RunsTo q IsStep (is_zero_time (q.table.time q.rule)) o

-- the outcome for the cost of a rule, if each linear program may take this many pivots: by the answer whether the rows
-- of its cost rule have a point, and by that on the only place of this rule's target, which holds the cost
pub record IsCostOf (p : Program) (pivots : ℕ) (tab : Table) (t : ℕ) (o : CostOutcome) : Type 0 where
  pub costs : HasCost p t
  pub feasibility : GuardFeasibility
  pub answered : IsEmptyAnswer (prepared (cost_rule costs.rule costs.cost)) t pivots feasibility
  pub first : FeasibleTo (question p tab t)
      (IsLocal (prepared (cost_rule costs.rule costs.cost)) (cost_result_variable t) pivots feasibility) feasibility o

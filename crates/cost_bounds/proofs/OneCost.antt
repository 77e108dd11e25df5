-- A rule has one outcome on its cost.
use Rattle.std.proofs.Common.{◌≡◌, inl, inr, Bool, true, false, ℕ, List, Option, Some, None, sym, ap, ◌∙◌, subst}
use Rattle.model.specs.Bounds.{Bound}
use Rattle.model.specs.Costs.{HasCost, cost_rule}
use Rattle.model.specs.Programs.{Program, Rule}
use Rattle.model.specs.Terms.{Term}
use Rattle.model.proofs.Cases.{some_same}
use Rattle.guard_prep.specs.Prepared.{Prepared, prepared}
use Rattle.cert_types.specs.cert_rules.AcceptsCosts.{cost_result_variable}
use Rattle.cert_types.specs.cert_rules.Known.{Table}
use Rattle.cert_types.specs.cert_rules.Nodes.{ResultVariable, SideBound, EmptyCost}
use Rattle.cert_types.specs.declared.answer.GuardFeasibility.{GuardFeasibility}
use Rattle.cert_types.specs.declared.answer.GuardFeasibility.TheVariants as feasible
use Rattle.rank_search.specs.rule_questions.EmptyAnswers.{IsEmptyAnswer}
use Rattle.rank_search.specs.rule_questions.OneEmptyAnswer.{IsSameEmptyAnswer}
use Rattle.rank_search.proofs.rule_questions.OneEmptyAnswer.{empties-one}
use Rattle.local_size.specs.LocalAnswers.{Local, HasBound, IsUnboundedOn, HasHitLimit, IsLocal}
use Rattle.local_size.proofs.OneLocal.{locals-once}
use Rattle.size_nodes.specs.Needs.{first_missing}
use Rattle.cost_bounds.specs.CostOutcomes.{CostOutcome, BoundedBy, CostQuestion, IsCostOf, FeasibleTo, RunsTo, SizedTo}
use Rattle.cost_bounds.specs.CostOutcomes.{ComposesTo, StepTo, TimedTo, is_zero_time, question, sizes_read}
use Rattle.cost_bounds.specs.CostReasons.{prepared_cost}
use Rattle.cost_bounds.specs.Laws.{CostAnswersAreOne}

module _ (q : CostQuestion) (x y : CostOutcome) where
  -- two outcomes that are equal to a third one are equal
  both : (z : CostOutcome) → x ≡ z → y ≡ z → x ≡ y
  both z g h = g ∙ sym h

  composes-once : (side_bound : SideBound) → ComposesTo q side_bound x → ComposesTo q side_bound y → x ≡ y
  composes-once side_bound (inl g) (inl h) = g.1 ∙ sym h.1
  composes-once side_bound (inl g) (inr h) = absurd (h.0 g.0)
  composes-once side_bound (inr g) (inl h) = absurd (g.0 h.0)
  composes-once side_bound (inr g) (inr h) = g.1 ∙ sym h.1

  timed-once : (side_bound : SideBound) (o : Option Bound) → TimedTo q side_bound o x → TimedTo q side_bound o y → x ≡ y
  timed-once side_bound None g h = g ∙ sym h
  timed-once side_bound (Some time) g h = composes-once side_bound g h

  sized-once : (side_bound : SideBound) (o : Option ResultVariable) → SizedTo q side_bound o x
      → SizedTo q side_bound o y → x ≡ y
  sized-once side_bound None g h = timed-once side_bound (q.table.time q.rule) g h
  sized-once side_bound (Some missing) g h = g ∙ sym h

  -- one answer on the cost of one step has one outcome
  step-once : (step : Local) → StepTo q step x → StepTo q step y → x ≡ y
  step-once (HasBound local) g h = sized-once local.up (first_missing q.table (sizes_read q local.up)) g h
  step-once (IsUnboundedOn side ray kept) g h = g ∙ sym h
  step-once (HasHitLimit limit_hit) g h = g ∙ sym h

  module _ (m : Prepared) (pivots : ℕ) where
    -- the answer on the cost of one step
    abbrev IsStep : GuardFeasibility → Local → Type 0
    IsStep e step = IsLocal m (cost_result_variable q.rule) pivots e step

    runs-once : (d e : GuardFeasibility) → IsSameEmptyAnswer d e → (v : Bool) → RunsTo q (IsStep d) v x
        → RunsTo q (IsStep e) v y
        → x ≡ y
    runs-once d e same true g h = g ∙ sym h
    runs-once d e same false (a, is, g) (b, js, h) =
        step-once a g (subst (λ (step : Local). StepTo q step y)
        (sym (locals-once m (cost_result_variable q.rule) pivots d e a b same is js)) h)

    -- one answer on the rows has one outcome
    feasible-once : (d e : GuardFeasibility) → IsSameEmptyAnswer d e → FeasibleTo q (IsStep d) d x
        → FeasibleTo q (IsStep e) e y
        → x ≡ y
    feasible-once (feasible.Empty n) (feasible.Empty k) same g h =
        g ∙ (ap (λ (ms : List ℕ). BoundedBy (EmptyCost ms)) same.1 ∙ sym h)
    feasible-once (feasible.Empty n) (feasible.Point z) same g h = absurd same
    feasible-once (feasible.Empty n) (feasible.OutOfLimits t) same g h = absurd same
    feasible-once (feasible.Point z) (feasible.Empty n) same g h = absurd same
    feasible-once (feasible.Point z) (feasible.Point w) same g h =
        runs-once (feasible.Point z) (feasible.Point w) same (is_zero_time (q.table.time q.rule)) g h
    feasible-once (feasible.Point z) (feasible.OutOfLimits t) same g h = absurd same
    feasible-once (feasible.OutOfLimits t) (feasible.Empty n) same g h = absurd same
    feasible-once (feasible.OutOfLimits t) (feasible.Point z) same g h = absurd same
    feasible-once (feasible.OutOfLimits t) (feasible.OutOfLimits u) same g h =
        runs-once (feasible.OutOfLimits t) (feasible.OutOfLimits u) same (is_zero_time (q.table.time q.rule)) g h

-- a rule with a cost has one cost rule
one-cost : (p : Program) (t : ℕ) (h k : HasCost p t) → prepared_cost h ≡ prepared_cost k
one-cost p t h k =
    ap (λ (r : Rule). prepared (cost_rule r h.cost)) rules ∙ ap (λ (c : Term). prepared (cost_rule k.rule c)) costs
  where
    rules : h.rule ≡ k.rule
    rules = some_same h.rule k.rule (sym h.numbered ∙ k.numbered)

    costs : h.cost ≡ k.cost
    costs = some_same h.cost k.cost (sym h.written ∙ (ap (λ (r : Rule). r.cost) rules ∙ k.written))

-- the cost of a rule has one outcome
cost-once : (p : Program) (pivots : ℕ) (tab : Table) (t : ℕ) (x y : CostOutcome) → IsCostOf p pivots tab t x
    → IsCostOf p pivots tab t y → x ≡ y
cost-once p pivots tab t x y g h =
    let m = prepared_cost g.costs in
    let same = one-cost p t h.costs g.costs in
    let answered = subst (λ (n : Prepared). IsEmptyAnswer n t pivots h.feasibility) same h.answered in
    feasible-once (question p tab t) x y m pivots g.feasibility h.feasibility
    (empties-one.each m t pivots g.feasibility h.feasibility g.answered answered) g.first
    (subst (λ (n : Prepared). FeasibleTo (question p tab t) (IsLocal n (cost_result_variable t) pivots h.feasibility)
    h.feasibility y) same h.first)

pub costs-one : CostAnswersAreOne
costs-one = record { each = cost-once }

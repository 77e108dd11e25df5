use Rattle.std.proofs.Common.{sym, subst}
use Rattle.std.proofs.lemmas.Result.{IfOk-weaker}
use Rattle.cert_types.specs.declared.answer.GuardFeasibility.{GuardFeasibility}
use Rattle.rank_search.specs.rule_questions.EmptyAnswers.{SaysEmpty}
use Rattle.size_bounds.specs.Tables.{table_of, number_at}
use Rattle.cost_bounds.proofs.FoundCosts.{cost-prepared, empty-answers}
use Rattle.cost_bounds.proofs.finding.cost_by_rows.Goals as goal

pub guard_feasibility-requires : goal.guard_feasibility-requires
guard_feasibility-requires c = cost-prepared c.requires.0 c.args.cost.now c.requires.1

pub returns-in-Empty : goal.returns-in-Empty
returns-in-Empty c =
    IfOk-weaker c.empty_cost.result _ _
    (λ a h p given. empty-answers p c.args.pivots (table_of c.args.t.now) (number_at c.args.t.now) c.args.cost.now given
    c.in_ok-feasibility.feasibility c.in_ok-feasibility.ensures c.in-Empty.node c.in-Empty.is c.deref.result.now
    c.deref.ensures.value a h)
    c.empty_cost.ensures

pub cost_by_time-requires-clause-may_run : goal.cost_by_time-requires-clause-may_run
cost_by_time-requires-clause-may_run c = subst (λ (e : GuardFeasibility). ¬ (SaysEmpty e)) (sym c.in-Point.is) (λ h. h)

pub cost_by_time-requires-in-OutOfLimits-clause-may_run : goal.cost_by_time-requires-in-OutOfLimits-clause-may_run
cost_by_time-requires-in-OutOfLimits-clause-may_run c =
    subst (λ (e : GuardFeasibility). ¬ (SaysEmpty e)) (sym c.in-OutOfLimits.is) (λ h. h)

use Rattle.std.proofs.Common.{◌∙◌, ap, sym, arith}
use Rattle.std.proofs.lemmas.Result.{IfOk-weaker}
use Rattle.local_size.specs.LocalAnswers.{local_answer_of}
use Rattle.size_bounds.specs.Tables.{table_of, number_at}
use Rattle.cost_nodes.proofs.CostRules.{cost-single}
use Rattle.cost_bounds.specs.CostOutcomes.{is_zero_time}
use Rattle.cost_bounds.proofs.FoundCosts.{cost-prepared, never-answers, step-answers, step-readable}
use Rattle.cost_bounds.proofs.finding.cost_by_time.Goals as goal

pub returns-then-is_zero_time : goal.returns-then-is_zero_time
returns-then-is_zero_time c =
    IfOk-weaker c.never_cost.result _ _
    (λ a h p given. never-answers p c.args.pivots (table_of c.args.t.now) (number_at c.args.t.now) c.args.cost.now given
    c.args.feasibility.now c.requires.answered c.requires.may_run
    (ap is_zero_time (sym c.time.ensures) ∙ (sym c.is_zero_time.ensures ∙ c.if-is_zero_time.true)) a h)
    c.never_cost.ensures

pub local-requires-clause-prepared : goal.local-requires-clause-prepared
local-requires-clause-prepared c = cost-prepared c.requires.cost.0 c.args.cost.now c.requires.cost.1

pub local-requires-clause-place : goal.local-requires-clause-place
local-requires-clause-place c =
    let one = cost-single c.requires.cost.0 c.args.cost.now.rule c.args.cost.now.rows.now c.requires.cost.1.rows in
    (omega arith, omega (arith, one))

pub cost_by_step-requires-clause-readable : goal.cost_by_step-requires-clause-readable
cost_by_step-requires-clause-readable c =
    step-readable c.requires.cost.0 c.args.pivots (table_of c.args.t.now) (number_at c.args.t.now) c.args.cost.now
    c.requires.cost.1
    c.args.feasibility.now c.requires.answered c.in_ok-step.step c.in_ok-step.ensures

pub returns : goal.returns
returns c =
    IfOk-weaker c.cost_by_step.result _ _
    (λ a h p given. step-answers p c.args.pivots (table_of c.args.t.now) (number_at c.args.t.now) c.args.cost.now given
    c.args.feasibility.now c.requires.answered c.requires.may_run
    (ap is_zero_time (sym c.time.ensures) ∙ (sym c.is_zero_time.ensures ∙ c.if-is_zero_time.false))
    (local_answer_of c.in_ok-step.step) c.in_ok-step.ensures a (h p given))
    c.cost_by_step.ensures

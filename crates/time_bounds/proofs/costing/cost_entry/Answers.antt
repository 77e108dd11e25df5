use Rattle.std.proofs.Common.{◌≡◌, length, refl, subst, arith}
use Rattle.size_bounds.specs.Tables.{number_at, table_of}
use Rattle.cost_bounds.specs.CostAnswers.{IsCostAnswer}
use Rattle.cost_bounds.specs.declared.answer.CostAnswer.TheVariants as answers
use Rattle.time_bounds.specs.Questions.{program_in}
use Rattle.time_bounds.proofs.CostingAnswers.{found_added, over_keys}
use Rattle.time_bounds.proofs.costing.cost_entry.Goals as goal

pub returns-then-not-has_cost-clause-adds : goal.returns-then-not-has_cost-clause-adds
returns-then-not-has_cost-clause-adds c = (λ h. let f = c.has_cost.ensures.1 h in let no : ⊥ = cc in no, refl)

pub cost-requires-clause-costs : goal.cost-requires-clause-costs
cost-requires-clause-costs c = c.has_cost.ensures.0 c.if-not-has_cost.false

pub bound_of_cost-requires : goal.bound_of_cost-requires
bound_of_cost-requires c =
    let cx = c.args.cx.now in
    let tab = c.args.table.now in
    let h = subst (IsCostAnswer (program_in cx) cx.pivots (table_of tab) (number_at tab) c.args.rule) c.in-Found.is
    c.in_ok-answer.ensures in
    (_, h.3)

pub returns-in_ok-push-in-Found-clause-adds : goal.returns-in_ok-push-in-Found-clause-adds
returns-in_ok-push-in-Found-clause-adds c =
    let cx = c.args.cx.now in
    let tab = c.args.table.now in
    let h = subst (IsCostAnswer (program_in cx) cx.pivots (table_of tab) (number_at tab) c.args.rule) c.in-Found.is
    c.in_ok-answer.ensures in
    let many : c.len.result ≡ length c.push.new.self.items = omega (arith, c.len.ensures, c.push.new.self.ok.0) in
    found_added (program_in cx) cx.pivots tab c.args.rule c.in-Found.node c.in-Found.fact h _ c.bound_of_cost.ensures
    c.args.lemmas.now.items c.push.new.self.items c.in_ok-push-in-Found.ensures.items many

pub returns-in-UnboundedSide-clause-adds : goal.returns-in-UnboundedSide-clause-adds
returns-in-UnboundedSide-clause-adds c =
    let cx = c.args.cx.now in
    let tab = c.args.table.now in (
      over_keys (program_in cx) cx.pivots tab c.args.rule (answers.UnboundedSide c.in-UnboundedSide.side)
          (subst (IsCostAnswer (program_in cx) cx.pivots (table_of tab) (number_at tab) c.args.rule) c.in-UnboundedSide.is
          c.in_ok-answer.ensures),
      refl,
    )

pub returns-in-OutOfLimits-clause-adds : goal.returns-in-OutOfLimits-clause-adds
returns-in-OutOfLimits-clause-adds c =
    let cx = c.args.cx.now in
    let tab = c.args.table.now in (
      over_keys (program_in cx) cx.pivots tab c.args.rule (answers.OutOfLimits c.in-OutOfLimits.limit_hit)
          (subst (IsCostAnswer (program_in cx) cx.pivots (table_of tab) (number_at tab) c.args.rule) c.in-OutOfLimits.is
          c.in_ok-answer.ensures),
      refl,
    )

pub returns-in-Missing-clause-adds : goal.returns-in-Missing-clause-adds
returns-in-Missing-clause-adds c =
    let cx = c.args.cx.now in
    let tab = c.args.table.now in (
      over_keys (program_in cx) cx.pivots tab c.args.rule (answers.Missing c.in-Missing.result_variable)
          (subst (IsCostAnswer (program_in cx) cx.pivots (table_of tab) (number_at tab) c.args.rule) c.in-Missing.is
          c.in_ok-answer.ensures),
      refl,
    )

pub returns-in-Untimed-clause-adds : goal.returns-in-Untimed-clause-adds
returns-in-Untimed-clause-adds c =
    let cx = c.args.cx.now in
    let tab = c.args.table.now in (
      over_keys (program_in cx) cx.pivots tab c.args.rule (answers.Untimed c.in-Untimed.rule)
          (subst (IsCostAnswer (program_in cx) cx.pivots (table_of tab) (number_at tab) c.args.rule) c.in-Untimed.is
          c.in_ok-answer.ensures),
      refl,
    )

pub returns-in-Large-clause-adds : goal.returns-in-Large-clause-adds
returns-in-Large-clause-adds c =
    let cx = c.args.cx.now in
    let tab = c.args.table.now in (
      over_keys (program_in cx) cx.pivots tab c.args.rule (answers.Large c.in-Large.nodes)
          (subst (IsCostAnswer (program_in cx) cx.pivots (table_of tab) (number_at tab) c.args.rule) c.in-Large.is
          c.in_ok-answer.ensures),
      refl,
    )

use Rattle.its_model.specs.Views.{program_of}
use Rattle.cost_nodes.proofs.WrittenCosts.{cost-there, cost-written, rule-at}
use Rattle.cost_nodes.proofs.costing.has_cost.Goals as goal

pub returns-then-not-is_rule : goal.returns-then-not-is_rule
returns-then-not-is_rule c = (
  λ e. absurd (let no : ⊥ = cc in no),
  λ h. absurd (let f = c.if-not-is_rule.ensures.1 (record { rule = h.rule; numbered = h.numbered }) in let no : ⊥ = cc in no),
)

pub returns : goal.returns
returns c =
    let here =
    rule-at c.args.p.now c.args.rule c.index.result.now (c.is_rule.ensures.0 c.if-not-is_rule.false) c.index.ensures in (
      λ e. cost-there (program_of c.args.p.now) c.args.rule c.index.result.now here (c.is_written.ensures.0 e),
      λ h. c.is_written.ensures.1 (cost-written (program_of c.args.p.now) c.args.rule c.index.result.now here h),
    )

use Rattle.std.proofs.Common.{Option, subst, arith}
use Rattle.guard_prep.specs.declared.rule_rows.RuleRows.{RuleRows}
use Rattle.gap_checks.proofs.GapFaults.{rule-range}
use Rattle.cert_context.specs.CostRows.{StatesCost}
use Rattle.cert_context.specs.CheckContexts.{program}
use Rattle.cert_context.proofs.PreparedCosts.{cost-sound}
use Rattle.cert_context.proofs.context.prepared_cost_rule.Goals as goal

pub returns-in-Some : goal.returns-in-Some
returns-in-Some c =
    let g = c.args.context.now in
    let within = rule-range (program g) c.args.rule (c.is_rule.ensures.0 c.if-not-is_rule.false) in
    subst (λ (o : Option RuleRows). StatesCost (program g) c.args.rule o) c.in-Some.is
    (cost-sound (program g) g.costs.items c.requires.costs c.args.rule c.index.result.now (omega (arith, within.0)) within.1 c.index.ensures)

pub returns-in-None : goal.returns-in-None
returns-in-None c =
    let g = c.args.context.now in
    let within = rule-range (program g) c.args.rule (c.is_rule.ensures.0 c.if-not-is_rule.false) in
    subst (λ (o : Option RuleRows). StatesCost (program g) c.args.rule o) c.in-None.is
    (cost-sound (program g) g.costs.items c.requires.costs c.args.rule c.index.result.now (omega (arith, within.0)) within.1 c.index.ensures)

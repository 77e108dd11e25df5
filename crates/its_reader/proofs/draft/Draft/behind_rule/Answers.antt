use Rattle.std.proofs.Common.{sym, ◌∙◌}
use Rattle.its_reader.proofs.TailPromises.{rule_leads, rule_stops}
use Rattle.its_reader.proofs.draft.Draft.behind_rule.Goals as goal

pub returns-in_ok-end_rule : goal.returns-in_ok-end_rule
returns-in_ok-end_rule c = rule_leads _ c.args.self.now _ _ _ c.in_ok-end_rule.ensures c.begin_rule.ensures.leads
    c.begin_rule.ensures.sourced

pub returns-else-leaves_rule : goal.returns-else-leaves_rule
returns-else-leaves_rule c = rule_stops _ c.args.self.now (sym c.leaves_rule.ensures ∙ c.if-leaves_rule.false)

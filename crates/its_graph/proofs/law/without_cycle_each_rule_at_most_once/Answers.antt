use Rattle.its_graph.proofs.Totals.{each_rule_at_most_once}
use Rattle.its_graph.proofs.law.without_cycle_each_rule_at_most_once.Goals as goal

pub returns : goal.returns
returns c = each_rule_at_most_once

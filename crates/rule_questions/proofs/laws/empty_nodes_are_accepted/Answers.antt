use Rattle.rule_questions.proofs.Exact.{nodes-accepted}
use Rattle.rule_questions.proofs.laws.empty_nodes_are_accepted.Goals as goal

pub returns : goal.returns
returns c = nodes-accepted

use Rattle.cert_rules.proofs.WorkedCosts.{cost_nodes, cost_reasons}
use Rattle.cert_rules.proofs.WorkedPaying.{paying_is_faithful}
use Rattle.cert_rules.proofs.worked_costs_hold.Goals as goal

pub returns : goal.returns
returns c = record { faithful = paying_is_faithful; judged = cost_nodes; reasons = cost_reasons }

use Rattle.worked_nodes.proofs.WorkedCosts.{costs_judged, cost_reasons_in_order}
use Rattle.worked_nodes.proofs.costs_are_as_worked_out.Goals as goal

pub returns : goal.returns
returns c = record { judged = costs_judged; reasons = cost_reasons_in_order }

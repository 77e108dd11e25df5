use Rattle.its_model.proofs.CostFaults.{costs-have-no-fault}
use Rattle.its_model.proofs.cost.costs_have_no_fault.Goals as goal

pub returns : goal.returns
returns c = costs-have-no-fault

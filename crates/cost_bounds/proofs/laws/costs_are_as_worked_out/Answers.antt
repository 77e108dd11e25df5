use Rattle.cost_bounds.proofs.WorkedCosts.{worked}
use Rattle.cost_bounds.proofs.laws.costs_are_as_worked_out.Goals as goal

pub returns : goal.returns
returns c = worked

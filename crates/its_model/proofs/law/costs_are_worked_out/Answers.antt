use Rattle.its_model.proofs.WorkedCosts.{costs-are-worked-out}
use Rattle.its_model.proofs.law.costs_are_worked_out.Goals as goal

pub returns : goal.returns
returns c = costs-are-worked-out

use Rattle.cost_bounds.proofs.CostReasons.{reasons-true}
use Rattle.cost_bounds.proofs.laws.cost_reasons_are_true.Goals as goal

pub returns : goal.returns
returns c = reasons-true

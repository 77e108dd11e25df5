use Rattle.cost_bounds.proofs.OneCost.{costs-one}
use Rattle.cost_bounds.proofs.laws.cost_answers_are_one.Goals as goal

pub returns : goal.returns
returns c = costs-one

use Rattle.cost_bounds.proofs.CostLemmas.{bounded-accepted}
use Rattle.cost_bounds.proofs.laws.bounded_costs_are_accepted.Goals as goal

pub returns : goal.returns
returns c = bounded-accepted

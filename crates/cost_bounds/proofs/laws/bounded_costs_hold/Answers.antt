use Rattle.cost_bounds.proofs.CostLemmas.{bounded-hold}
use Rattle.cost_bounds.proofs.laws.bounded_costs_hold.Goals as goal

pub returns : goal.returns
returns c = bounded-hold

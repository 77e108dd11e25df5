use Rattle.model.proofs.WorkedCosts.{steps_cost, runs_spend, costs_hold}
use Rattle.model.proofs.WorkedTotals.{totals_hold}
use Rattle.model.proofs.costs.worked_costs_hold.Goals as goal

pub returns : goal.returns
returns c = record { steps = steps_cost; runs = runs_spend; facts = costs_hold; totals = totals_hold }

use Rattle.model.proofs.CostLaws.{values_stand, plain_spend, costs_change_no_run}
use Rattle.model.proofs.costs.costs_go_step_by_step.Goals as goal

pub returns : goal.returns
returns c = record { values = values_stand; plain = plain_spend; runs = costs_change_no_run }

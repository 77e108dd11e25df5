use Rattle.its_model.proofs.CostPrograms.{cost-programs-tell-costs}
use Rattle.its_model.proofs.costing.cost_programs_state_costs.Goals as goal

pub returns : goal.returns
returns c = cost-programs-tell-costs

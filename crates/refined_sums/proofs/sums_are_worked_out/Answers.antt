use Rattle.refined_sums.proofs.WorkedValues.{sums_are_worked_out}
use Rattle.refined_sums.proofs.sums_are_worked_out.Goals as goal

pub returns : goal.returns
returns c = sums_are_worked_out

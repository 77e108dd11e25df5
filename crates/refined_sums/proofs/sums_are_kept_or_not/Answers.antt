use Rattle.refined_sums.proofs.WorkedValues.{sums_are_kept_or_not}
use Rattle.refined_sums.proofs.sums_are_kept_or_not.Goals as goal

pub returns : goal.returns
returns c = sums_are_kept_or_not

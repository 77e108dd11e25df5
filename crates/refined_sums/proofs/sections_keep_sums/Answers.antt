use Rattle.refined_sums.proofs.SumsKept.{sections_keep_sums}
use Rattle.refined_sums.proofs.sections_keep_sums.Goals as goal

pub returns : goal.returns
returns c = sections_keep_sums

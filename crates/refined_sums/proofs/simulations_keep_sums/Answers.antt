use Rattle.refined_sums.proofs.SumsKept.{simulations_keep_sums}
use Rattle.refined_sums.proofs.simulations_keep_sums.Goals as goal

pub returns : goal.returns
returns g c = simulations_keep_sums g.F.Facts.HasFacts

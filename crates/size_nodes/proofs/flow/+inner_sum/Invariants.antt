use Rattle.std.proofs.Common.{length}
use Rattle.size_nodes.proofs.flow.+inner_sum.Given as goal

abbrev pub decreases-inner_sum : goal.decreases-inner_sum
decreases-inner_sum l = length l.coefs.now

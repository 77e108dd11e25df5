use Rattle.std.proofs.Common.{length}
use Rattle.integer_pivoting.proofs.checking.+sum_at.Given as goal

abbrev pub decreases-sum_at : goal.decreases-sum_at
decreases-sum_at l = length l.entries.now

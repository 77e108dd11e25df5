use Rattle.std.proofs.Common.{length}
use Rattle.potential_types.proofs.comparing.+same_charges.Given as goal

abbrev pub decreases-same_charges : goal.decreases-same_charges
decreases-same_charges l = length l.charges.now

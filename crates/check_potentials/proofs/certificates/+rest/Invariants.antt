use Rattle.std.proofs.Common.{length}
use Rattle.check_potentials.proofs.certificates.+rest.Given as goal

abbrev pub decreases-rest : goal.decreases-rest
decreases-rest l = length l.summands.now

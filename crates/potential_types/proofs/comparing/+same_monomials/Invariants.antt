use Rattle.std.proofs.Common.{length}
use Rattle.potential_types.proofs.comparing.+same_monomials.Given as goal

abbrev pub decreases-same_monomials : goal.decreases-same_monomials
decreases-same_monomials l = length l.monomials.now

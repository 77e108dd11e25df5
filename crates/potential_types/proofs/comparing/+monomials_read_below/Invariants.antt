use Rattle.std.proofs.Common.{length}
use Rattle.potential_types.proofs.comparing.+monomials_read_below.Given as goal

abbrev pub decreases-monomials_read_below : goal.decreases-monomials_read_below
decreases-monomials_read_below l = length l.monomials.now

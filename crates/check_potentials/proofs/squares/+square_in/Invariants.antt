use Rattle.std.proofs.Common.{length}
use Rattle.check_potentials.proofs.squares.+square_in.Given as goal

abbrev pub decreases-square_in : goal.decreases-square_in
decreases-square_in l = length l.monomials.now

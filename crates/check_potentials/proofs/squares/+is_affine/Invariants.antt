use Rattle.std.proofs.Common.{length}
use Rattle.check_potentials.proofs.squares.+is_affine.Given as goal

abbrev pub decreases-is_affine : goal.decreases-is_affine
decreases-is_affine l = length l.monomials.now

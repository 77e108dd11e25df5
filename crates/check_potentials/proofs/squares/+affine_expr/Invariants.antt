use Rattle.std.proofs.Common.{length}
use Rattle.check_potentials.proofs.squares.+affine_expr.Given as goal

abbrev pub decreases-affine_expr : goal.decreases-affine_expr
decreases-affine_expr l = length l.monomials.now

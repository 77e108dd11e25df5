use Rattle.std.proofs.Common.{length}
use Rattle.check_potentials.proofs.expressions.+polynomial_expr.Given as goal

abbrev pub decreases-polynomial_expr : goal.decreases-polynomial_expr
decreases-polynomial_expr l = length l.monomials.now

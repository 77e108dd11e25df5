use Rattle.std.proofs.Common.{length}
use Rattle.check_potentials.proofs.expressions.+coefficients_expr.Given as goal

abbrev pub decreases-coefficients_expr : goal.decreases-coefficients_expr
decreases-coefficients_expr l = length l.coefs.now

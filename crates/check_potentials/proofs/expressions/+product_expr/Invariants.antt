use Rattle.std.proofs.Common.{length}
use Rattle.check_potentials.proofs.expressions.+product_expr.Given as goal

abbrev pub decreases-product_expr : goal.decreases-product_expr
decreases-product_expr l = length l.vars.now

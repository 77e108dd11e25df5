use Rattle.std.proofs.Common.{length}
use Rattle.signed_values.proofs.polynomials.+product_of.Given as goal

-- fewer variables are left with each call
abbrev pub decreases-product_of : goal.decreases-product_of
decreases-product_of l = length l.vars.now

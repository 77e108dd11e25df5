use Rattle.std.proofs.Common.{length}
use Rattle.signed_values.proofs.polynomials.+value_of.Given as goal

-- fewer monomials are left with each call
abbrev pub decreases-value_of : goal.decreases-value_of
decreases-value_of l = length l.terms.now

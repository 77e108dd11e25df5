use Rattle.std.proofs.Common.{map, take}
use Rattle.poly_terms.specs.Views.{monomial_of}
use Rattle.cert_types.specs.cert_rules.AcceptsSizes.{ReadsLeft}
use Rattle.check_sizes.proofs.side_bounds.are_left_alone.Given as goal

-- the monomials before this one have left variables alone
abbrev pub invariant-loop-monomial : goal.invariant-loop-monomial
invariant-loop-monomial l = ReadsLeft l.left (map monomial_of (take l.monomial-index l.monomials))

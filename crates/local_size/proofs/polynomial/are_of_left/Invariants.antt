use Rattle.std.proofs.Common.{◌≡◌, drop}
use Rattle.poly_terms.specs.Views.{monomials_of}
use Rattle.local_size.specs.Places.{is_of_left}
use Rattle.local_size.proofs.polynomial.are_of_left.Given as goal

-- the remaining monomials decide
abbrev pub invariant-loop-monomial : goal.invariant-loop-monomial
invariant-loop-monomial l =
    is_of_left l.left (monomials_of (drop l.monomial-index l.monomials)) ≡ is_of_left l.left (monomials_of l.monomials)

use Rattle.std.proofs.Common.{◌≡◌, drop}
use Rattle.poly_terms.specs.Views.{monomials_of}
use Rattle.signed_bounds.specs.Safe.{is_sum_of_squares}
use Rattle.signed_within.proofs.squares.is_sum_of_squares.Given as goal

-- whether all monomials are such multiples depends on those left
abbrev pub invariant-loop-monomial : goal.invariant-loop-monomial
invariant-loop-monomial l =
    is_sum_of_squares (monomials_of (drop l.monomial-index l.monomials)) ≡ is_sum_of_squares (monomials_of l.monomials)

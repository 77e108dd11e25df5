use Rattle.std.proofs.Common.{◌≡◌, take}
use Rattle.poly_terms.specs.Views.{monomials_of}
use Rattle.potential_types.proofs.copies.copied_monomials.Given as goal

-- the monomials passed are copied
abbrev pub invariant-loop-monomial : goal.invariant-loop-monomial
invariant-loop-monomial l = monomials_of l.copies.items ≡ monomials_of (take l.monomial-index l.monomials)

use Rattle.std.proofs.Common.{◌≡◌, ◌-◌, ◌^◌, min, take}
use Rattle.poly_terms.specs.Views.{monomials_of}
use Rattle.signed_bounds.specs.Measure.{polynomial_nodes}
use Rattle.signed_bounds.proofs.measured.nodes_in_monomials.Given as goal

abbrev pub invariant-loop-monomial : goal.invariant-loop-monomial
invariant-loop-monomial l = l.nodes ≡ min (polynomial_nodes (monomials_of (take l.monomial-index l.monomials))) (2 ^ 64 - 1)

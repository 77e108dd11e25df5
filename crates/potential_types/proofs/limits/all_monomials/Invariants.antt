use Rattle.std.proofs.Common.{◌≡◌, drop, map}
use Rattle.std.specs.List.{list_all}
use Rattle.potential_nodes.specs.Limits.{is_small_monomial}
use Rattle.poly_terms.specs.Views.{monomials_of}
use Rattle.potential_types.proofs.limits.all_monomials.Given as goal

-- whether all monomials are small depends on those left
abbrev pub invariant-loop-monomial : goal.invariant-loop-monomial
invariant-loop-monomial l =
    list_all is_small_monomial (monomials_of (drop l.monomial-index l.monomials))
    ≡ list_all is_small_monomial (monomials_of (l.monomials))

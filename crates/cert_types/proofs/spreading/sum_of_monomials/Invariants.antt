use Rattle.std.proofs.Common.{◌≡◌, drop, map}
use Rattle.bound_expr.specs.Views.{bounds_of, parts_of}
use Rattle.poly_terms.specs.Views.{monomial_of}
use Rattle.cert_program.specs.cert_rules.Composed.{sizes_after}
use Rattle.cert_program.specs.cert_rules.ComposedSizes.{monomial_parts}
use Rattle.cert_types.specs.Sizes.{joined}
use Rattle.cert_types.proofs.spreading.sum_of_monomials.Given as goal

abbrev pub invariant-loop-monomial : goal.invariant-loop-monomial
invariant-loop-monomial g l =
    joined (parts_of (bounds_of l.parts.items))
    (monomial_parts (map monomial_of (drop l.monomial-index l.monomials)) (sizes_after (g.K.Known.table l.known).size l.rule))
    ≡ monomial_parts (map monomial_of l.monomials) (sizes_after (g.K.Known.table l.known).size l.rule)

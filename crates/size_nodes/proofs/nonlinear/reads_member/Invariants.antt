use Rattle.std.proofs.Common.{◌≡◌, drop, map}
use Rattle.std.specs.List.{list_any}
use Rattle.poly_terms.specs.Views.{monomial_of}
use Rattle.cert_types.specs.cert_rules.ComposedSizes.{is_member}
use Rattle.cert_types.specs.Views.{member_of}
use Rattle.size_nodes.proofs.nonlinear.reads_member.Given as goal

abbrev pub invariant-loop-monomial : goal.invariant-loop-monomial
invariant-loop-monomial l =
    list_any (λ m. list_any (is_member (map member_of l.members) l.rule) m.vars)
    (map monomial_of (drop l.monomial-index l.monomials))
    ≡ list_any (λ m. list_any (is_member (map member_of l.members) l.rule) m.vars) (map monomial_of l.monomials)

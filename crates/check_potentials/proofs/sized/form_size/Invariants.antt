use Rattle.std.proofs.Common.{◌≡◌, suc, drop, map}
use Rattle.std.specs.Prelude.{option_map}
use Rattle.poly_terms.specs.Views.{monomials_of}
use Rattle.signed_bounds.specs.Views.{signeds_of}
use Rattle.potential_nodes.specs.PlainPeaks.{size_by, polynomial_size}
use Rattle.potential_types.specs.Views.{fact_view}
use Rattle.check_potentials.specs.Parts.{in_front}
use Rattle.check_potentials.proofs.sized.form_size.Given as goal

-- the bounds found, in front of those of the monomials that are left
abbrev pub invariant-loop-monomial : goal.invariant-loop-monomial
invariant-loop-monomial l =
    option_map (in_front (signeds_of l.parts.items))
    (polynomial_size (λ i. size_by (map fact_view l.facts) l.cited l.before (suc i))
    (monomials_of (drop l.monomial-index l.monomials)))
    ≡ polynomial_size (λ i. size_by (map fact_view l.facts) l.cited l.before (suc i)) (monomials_of l.monomials)

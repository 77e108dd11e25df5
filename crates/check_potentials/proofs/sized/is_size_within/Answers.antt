use Rattle.std.proofs.Common.{◌≡◌, ◌∙◌, ℕ, suc, Bool, List, map, ap, sym, subst, Option, Some}
use Rattle.std.specs.Prelude.{IfOk, option_map}
use Rattle.poly_terms.specs.Views.{monomials_of}
use Rattle.poly_terms.specs.declared.poly.Monomial.{Monomial}
use Rattle.signed_bounds.specs.Bounds as plain
use Rattle.signed_bounds.specs.Safe.{expands_to_squares}
use Rattle.signed_bounds.specs.Within.{within}
use Rattle.signed_bounds.specs.Views.{signed_of, signeds_of, parts_of}
use Rattle.potential_nodes.specs.PlainPeaks.{size_by, polynomial_size, form_size}
use Rattle.potential_types.specs.Views.{fact_view, sized_of}
use Rattle.check_potentials.specs.Stages.{is_form_within}
use Rattle.check_potentials.proofs.sized.is_size_within.Goals as goal

pub returns-in-Some : goal.returns-in-Some
returns-in-Some c =
    let facts = map fact_view c.args.facts.now in
    let b = signed_of c.args.bound.now in
    let form : Some (parts_of (signeds_of c.in-Some.parts.items)) ≡ form_size facts (sized_of c.args.node.now)
    c.args.before =
    sym (ap (option_map (λ ps. parts_of (signeds_of ps.items))) c.in-Some.is)
    ∙ (c.in_ok-found.ensures
    ∙ (ap (λ (cited : List ℕ). polynomial_size (λ i. size_by facts cited c.args.before (suc i))
    (monomials_of c.deref-2.result.now)) c.deref.ensures.value
    ∙ ap (λ (ms : List Monomial). polynomial_size
    (λ i. size_by facts c.args.node.now.cited.items c.args.before (suc i)) (monomials_of ms))
    c.deref-2.ensures.value)) in
    subst (λ (v : Bool). IfOk c.is_within.result (λ r. r ≡ v))
    (ap (λ (a : plain.Signed). within expands_to_squares 1 a b) c.sum_of_parts-composed.ensures
    ∙ ap (λ (o : Option plain.SignedParts). is_form_within o b) form)
    c.is_within.ensures

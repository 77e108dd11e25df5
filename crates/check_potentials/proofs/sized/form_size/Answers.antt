use Rattle.std.proofs.Common.{◌∙◌, ◌+◌, ◌∷◌, [], suc, List, sym, ap, map, drop, arith}
use Rattle.std.specs.Prelude.{option_map}
use Rattle.std.proofs.lemmas.List.{map-append}
use Rattle.poly_terms.specs.Views.{monomials_of}
use Rattle.signed_bounds.specs.Bounds as plain
use Rattle.signed_bounds.specs.Views.{signed_of, signeds_of}
use Rattle.potential_nodes.specs.PlainPeaks.{size_by, polynomial_size}
use Rattle.potential_types.specs.Views.{fact_view}
use Rattle.check_potentials.specs.Parts.{in_front}
use Rattle.check_potentials.proofs.SizeLaws.{size-passed, size-missing, size-done}
use Rattle.check_potentials.proofs.sized.form_size.Goals as goal

pub returns-in_default : goal.returns-in_default
returns-in_default c =
    size-missing (λ i. size_by (map fact_view c.args.facts.now) c.args.cited.now c.args.before (suc i))
    c.args.monomials.now
    c.loop-monomial.monomial-index c.monomial-item.result (signeds_of c.loop-monomial.parts.items)
    (polynomial_size (λ i. size_by (map fact_view c.args.facts.now) c.args.cited.now c.args.before (suc i))
    (monomials_of c.args.monomials.now)) c.loop-monomial-test.true c.monomial-item.is
    (sym (ap (option_map signed_of) c.in_default.is) ∙ c.in_ok-found.ensures) c.loop-monomial.invariant

pub loop-monomial-preserved : goal.loop-monomial-preserved
loop-monomial-preserved c =
    ap (λ (bs : List plain.Signed). option_map (in_front bs)
    (polynomial_size (λ i. size_by (map fact_view c.args.facts.now) c.args.cited.now c.args.before (suc i))
    (monomials_of (drop (c.loop-monomial.monomial-index + 1) c.args.monomials.now))))
    (ap signeds_of c.in_ok-push.ensures.items
    ∙ map-append signed_of c.loop-monomial.parts.items (c.in-Some.size ∷ []))
    ∙ size-passed (λ i. size_by (map fact_view c.args.facts.now) c.args.cited.now c.args.before (suc i))
    c.args.monomials.now
    c.loop-monomial.monomial-index c.monomial-item.result (signeds_of c.loop-monomial.parts.items)
    (signed_of c.in-Some.size)
    (polynomial_size (λ i. size_by (map fact_view c.args.facts.now) c.args.cited.now c.args.before (suc i))
    (monomials_of c.args.monomials.now)) c.loop-monomial-test.true c.monomial-item.is
    (sym (ap (option_map signed_of) c.in-Some.is) ∙ c.in_ok-found.ensures) c.loop-monomial.invariant

pub returns : goal.returns
returns c =
    size-done (λ i. size_by (map fact_view c.args.facts.now) c.args.cited.now c.args.before (suc i))
    c.args.monomials.now
    c.loop-monomial.monomial-index (signeds_of c.loop-monomial.parts.items)
    (polynomial_size (λ i. size_by (map fact_view c.args.facts.now) c.args.cited.now c.args.before (suc i))
    (monomials_of c.args.monomials.now)) (omega arith) c.loop-monomial.invariant

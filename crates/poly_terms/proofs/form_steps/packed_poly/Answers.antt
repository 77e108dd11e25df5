use Rattle.std.proofs.Common.{List, ap, ◌∙◌, subst}
use Rattle.model.specs.Polynomials.{degree_of}
use Rattle.poly_terms.specs.declared.keyed.Keyed.{Keyed}
use Rattle.poly_terms.specs.Keys.{IsMergedFrom}
use Rattle.poly_terms.specs.Views.{monomials_of, poly_of}
use Rattle.poly_terms.proofs.FormStepLaws.{packed-in_order}
use Rattle.poly_terms.proofs.form_steps.packed_poly.Goals as goal

pub returns-in-Ok : goal.returns-in-Ok
returns-in-Ok c =
    packed-in_order c.args.table.now c.in_ok-monomials.monomials.items (poly_of c.args.p.now) (record { terms = c.in_ok-terms.terms; degree = c.in-Ok.degree })
    (c.in_ok-monomials.ensures ∙ ap monomials_of c.deref.ensures.value)
    (subst (λ (es : List Keyed). IsMergedFrom c.in_ok-terms.terms.items es) c.deref-2.ensures.value c.in_ok-terms.ensures)
    (c.in-Ok.ensures.1 ∙ (c.degree.ensures ∙ ap (λ (ms : _). degree_of (monomials_of ms)) c.deref-3.ensures.value))

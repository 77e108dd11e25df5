use Rattle.std.proofs.Common.{map, ap, ◌∙◌, refl}
use Rattle.poly_terms.specs.Keys.{opposite_at}
use Rattle.poly_terms.proofs.KeyFormLaws.{negation-stands}
use Rattle.poly_terms.proofs.key_form.negation.Goals as goal

pub returns : goal.returns
returns c = λ table e h.
    negation-stands table e c.args.form.now (record { terms = c.in_ok-terms.terms; degree = c.args.form.now.degree }) h
    (c.in_ok-terms.ensures ∙ ap (map opposite_at) c.deref.ensures.value) refl

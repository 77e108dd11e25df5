use Rattle.std.proofs.Common.{rules, not, ap, ◌∙◌}
use Rattle.std.proofs.lemmas.List.Elements.{filter_from_retain}
use Rattle.linear_forms.specs.int_laws.NormalForm.{is_zero}
use Rattle.poly_terms.specs.Views.{monomials_of}
use Rattle.poly_terms.proofs.CollectLaws.{filtered-nonzero}
use Rattle.poly_terms.proofs.nonzero.nonzero.Goals as goal

pub returns : goal.returns
returns c =
    ap monomials_of (filter_from_retain _ (λ m. not (is_zero m.coef)) (λ p m b q h. search rules) _ c.args.terms.items _ c.retain.ensures.filtered)
    ∙ filtered-nonzero c.args.terms.items

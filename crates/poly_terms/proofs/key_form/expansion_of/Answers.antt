use Rattle.std.proofs.Common.{◌≡◌, ◌∙◌, [], ap, List}
use Rattle.std.proofs.lemmas.Result.{IfOk-weaker}
use Rattle.poly_terms.specs.declared.keyed.Keyed.{Keyed}
use Rattle.poly_terms.specs.Expanding.{sum_of}
use Rattle.poly_terms.specs.KeyForms.{IsExpansionOf}
use Rattle.poly_terms.specs.Keys.{monomials_at}
use Rattle.poly_terms.specs.Views.{poly_of}
use Rattle.poly_terms.proofs.FormStepLaws.{expansion-of}
use Rattle.poly_terms.proofs.KeyFormLaws.{expansion-stands}
use Rattle.poly_terms.proofs.key_form.expansion_of.Goals as goal

pub returns : goal.returns
returns c =
    let table = c.args.table.now in
    let form = c.args.form.now in
    IfOk-weaker c.unpacked_sum.result
    (λ p. poly_of p ≡ sum_of [] (monomials_at table c.deref.result.now))
    (λ p. IsExpansionOf table form (poly_of p))
    (λ p e. expansion-of table form (poly_of p) c.requires
    (λ t h. expansion-stands table t form (poly_of p) h (e ∙ ap (λ (es : List Keyed). sum_of [] (monomials_at table es)) c.deref.ensures.value)))
    c.unpacked_sum.ensures

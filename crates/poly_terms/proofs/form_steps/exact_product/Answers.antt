use Rattle.model.specs.Terms.{Multiplication}
use Rattle.poly_terms.specs.Views.{poly_of}
use Rattle.poly_terms.proofs.FormStepLaws.{product-answers}
use Rattle.poly_terms.proofs.form_steps.exact_product.Goals as goal

pub returns : goal.returns
returns c = λ d e h k.
    c.packed_form.ensures (Multiplication d e)
    (product-answers c.limited_product.result (poly_of c.in_ok-p.p) (poly_of c.in_ok-q.q) d e
    (c.in_ok-p.ensures.whole d h) (c.in_ok-q.ensures.whole e k) c.limited_product.ensures)

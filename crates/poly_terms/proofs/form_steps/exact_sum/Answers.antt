use Rattle.model.specs.Terms.{Addition}
use Rattle.poly_terms.specs.Views.{poly_of}
use Rattle.poly_terms.proofs.FormStepLaws.{sum-answers}
use Rattle.poly_terms.proofs.form_steps.exact_sum.Goals as goal

pub returns : goal.returns
returns c = λ d e h k.
    c.packed_form.ensures (Addition d e)
    (sum-answers c.limited_sum.result (poly_of c.in_ok-p.p) (poly_of c.in_ok-q.q) d e
    (c.in_ok-p.ensures.whole d h) (c.in_ok-q.ensures.whole e k) c.limited_sum.ensures)

use Rattle.model.specs.Terms.{Exponentiation}
use Rattle.poly_terms.specs.Views.{poly_of}
use Rattle.poly_terms.proofs.FormStepLaws.{exponent-answers}
use Rattle.poly_terms.proofs.form_steps.exact_power.Goals as goal

pub returns : goal.returns
returns c = λ e h.
    c.packed_form.ensures (Exponentiation e c.args.exponent)
    (exponent-answers c.power.result (poly_of c.in_ok-p.p) e c.args.exponent (c.in_ok-p.ensures.whole e h) c.power.ensures)

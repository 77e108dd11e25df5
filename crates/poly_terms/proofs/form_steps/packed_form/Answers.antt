use Rattle.std.proofs.Common.{subst}
use Rattle.std.specs.Prelude.{Result}
use Rattle.poly_terms.specs.declared.poly.Poly.{Poly}
use Rattle.poly_terms.specs.declared.poly_error.PolyError.{PolyError}
use Rattle.poly_terms.specs.Answers.{Answers}
use Rattle.poly_terms.specs.Expanding.{expanded}
use Rattle.poly_terms.specs.Faults.{first_fault}
use Rattle.poly_terms.specs.Views.{poly_of}
use Rattle.poly_terms.proofs.FormStepLaws.{packed-stands}
use Rattle.poly_terms.proofs.form_steps.packed_form.Goals as goal

pub returns-in_ok-packed_poly-in-Ok : goal.returns-in_ok-packed_poly-in-Ok
returns-in_ok-packed_poly-in-Ok c = λ t a.
    let whole = subst (λ (r : Result Poly PolyError). Answers r (first_fault t) (expanded t)) c.in-Ok.is a in
    packed-stands c.args.table.now t (poly_of c.in-Ok.p) c.in_ok-packed_poly-in-Ok.field-0 c.in_ok-packed_poly-in-Ok.ensures whole.0 whole.1

use Rattle.std.proofs.Common.{subst, Option, IfSome}
use Rattle.poly_terms.specs.declared.poly.Poly.{Poly}
use Rattle.poly_terms.specs.Powers.{IsPowerWithout}
use Rattle.poly_terms.specs.Views.{poly_of}
use Rattle.poly_terms.proofs.AnswerLaws.{last-answers}
use Rattle.poly_terms.proofs.power.power_in_steps.Goals as goal

pub returns-in-Ok-Some : goal.returns-in-Ok-Some
returns-in-Ok-Some c =
    let p = poly_of c.args.p.now in
    last-answers c.limited.result p (poly_of c.in-Ok-Some.whole) c.args.exponent
    (subst (λ (found : Option Poly). IfSome found (λ r. IsPowerWithout p c.args.exponent (poly_of r))) c.in-Ok-Some.field-0-is c.in-Ok-Some.ensures)
    c.limited.ensures

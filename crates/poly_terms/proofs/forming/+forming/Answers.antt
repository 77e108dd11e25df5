use Rattle.std.proofs.Common.{◌≡◌, ◌*◌, ap, sym, ◌∙◌, subst, arith}
use Rattle.std.specs.Prelude.{◌<◌}
use Rattle.model.specs.Terms.{Term, Negation, Addition, Multiplication, Exponentiation}
use Rattle.poly_terms.specs.declared.expr.Expr.{Expr}
use Rattle.poly_terms.specs.declared.form_error.FormError.{FormError}
use Rattle.poly_terms.specs.Faults.{first_fault}
use Rattle.poly_terms.specs.KeyForms.{IsFaultOf}
use Rattle.poly_terms.specs.Views.{term_of}
use Rattle.poly_terms.proofs.FormStepLaws.{negation-faulty, sum-faulty, difference-faulty, product-faulty, power-faulty}
use Rattle.poly_terms.proofs.Weights.{weight, weight-positive}
use Rattle.poly_terms.proofs.forming.+forming.Goals as goal

-- a fault of an expression is one of an equal expression
same_fault : (error : FormError) (t u : Term) → t ≡ u → IsFaultOf error (first_fault u) → IsFaultOf error (first_fault t)
same_fault error t u e h = subst (λ (v : Term). IsFaultOf error (first_fault v)) (sym e) h

pub both_forms-form_of-requires : goal.both_forms-form_of-requires
both_forms-form_of-requires t c =
    (let g : 2 * weight (term_of c.args.d.now) < t = omega (arith, c.decreases, weight-positive (term_of c.args.e.now)) in g, c.requires)

pub both_forms-form_of-requires-in-Ok : goal.both_forms-form_of-requires-in-Ok
both_forms-form_of-requires-in-Ok t c =
    (let g : 2 * weight (term_of c.args.e.now) < t = omega (arith, c.decreases, weight-positive (term_of c.args.d.now)) in g, c.requires)

pub difference_form-returns-in-Err : goal.difference_form-returns-in-Err
difference_form-returns-in-Err t c = difference-faulty c.in-Err.error (term_of c.args.d.now) (term_of c.args.e.now) c.in-Err.ensures

pub form_of-returns-in-Err : goal.form_of-returns-in-Err
form_of-returns-in-Err t c =
    let e = term_of c.deref.result.now in
    let same = ap term_of c.in-Neg.is ∙ ap (λ (x : Expr). Negation (term_of x)) (sym c.deref.ensures) in
    same_fault c.in-Err.error (term_of c.args.e.now) (Negation e) same (negation-faulty c.in-Err.error e c.in-Err.ensures)

pub form_of-returns-in-Err-both_forms : goal.form_of-returns-in-Err-both_forms
form_of-returns-in-Err-both_forms t c =
    let d = term_of c.deref-in-Add.result.now in
    let e = term_of c.deref-in-Add-2.result.now in
    let same = ap term_of c.in-Add.is ∙ (λ i. Addition (term_of (sym c.deref-in-Add.ensures i)) (term_of (sym c.deref-in-Add-2.ensures i))) in
    same_fault c.in-Err-both_forms.error (term_of c.args.e.now) (Addition d e) same (sum-faulty c.in-Err-both_forms.error d e c.in-Err-both_forms.ensures)

pub form_of-returns-in-Err-both_forms-2 : goal.form_of-returns-in-Err-both_forms-2
form_of-returns-in-Err-both_forms-2 t c =
    let d = term_of c.deref-in-Mul.result.now in
    let e = term_of c.deref-in-Mul-2.result.now in
    let same = ap term_of c.in-Mul.is ∙ (λ i. Multiplication (term_of (sym c.deref-in-Mul.ensures i)) (term_of (sym c.deref-in-Mul-2.ensures i))) in
    same_fault c.in-Err-both_forms-2.error (term_of c.args.e.now) (Multiplication d e) same (product-faulty c.in-Err-both_forms-2.error d e c.in-Err-both_forms-2.ensures)

pub form_of-returns-in-Err-form_of : goal.form_of-returns-in-Err-form_of
form_of-returns-in-Err-form_of t c =
    let e = term_of c.deref-in-Pow.result.now in
    let n = c.in-Pow.exponent in
    let same = ap term_of c.in-Pow.is ∙ ap (λ (x : Expr). Exponentiation (term_of x) n) (sym c.deref-in-Pow.ensures) in
    same_fault c.in-Err-form_of.error (term_of c.args.e.now) (Exponentiation e n) same (power-faulty c.in-Err-form_of.error e n c.in-Err-form_of.ensures)

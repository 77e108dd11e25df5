use Rattle.std.proofs.Common.{◌≡◌, ◌*◌, map, ap, sym, ◌∙◌, subst, arith}
use Rattle.std.specs.Prelude.{◌<◌, None, Result}
use Rattle.model.specs.Terms.{Term, Negation, Addition, Subtraction, Multiplication, Exponentiation}
use Rattle.model.specs.Polynomials.{Polynomial}
use Rattle.poly_terms.specs.declared.expr.Expr.{Expr}
use Rattle.poly_terms.specs.declared.poly.Poly.{Poly}
use Rattle.poly_terms.specs.declared.poly_error.PolyError.{PolyError}
use Rattle.poly_terms.specs.Expanding.{opposite, expanded, sum_of, product_of, power_of}
use Rattle.poly_terms.specs.Faults.{fault_in, first_fault}
use Rattle.poly_terms.specs.Powers.{faults_of_powers}
use Rattle.poly_terms.specs.Ordered.{IsAscending, IsOrdered, IsSmall}
use Rattle.poly_terms.specs.Views.{term_of, poly_of}
use Rattle.poly_terms.specs.Answers.{Says, Answers}
use Rattle.poly_terms.proofs.OrderLaws.{expanded-ordered, ascending-opposite}
use Rattle.poly_terms.proofs.Weights.{weight, weight-positive}
use Rattle.poly_terms.proofs.AnswerLaws.{expanded-small, opposite-small, one-fails, one-answers, two-fail, two-answer}
use Rattle.poly_terms.proofs.AnswerLaws.{power-fails, power-answers}
use Rattle.poly_terms.proofs.expanding.+expansion.Goals as goal

-- a polynomial that is the form of an expression without a fault is small and ascends
small_form : (p : Polynomial) (t : Term) → p ≡ expanded t → first_fault t ≡ None → IsSmall p
small_form p t e h = subst IsSmall (sym e) (expanded-small t h)

ascending_form : (p : Polynomial) (t : Term) → p ≡ expanded t → IsAscending p
ascending_form p t e = subst IsAscending (sym e) (expanded-ordered t).ascending

ordered_form : (p : Polynomial) (t : Term) → p ≡ expanded t → IsOrdered p
ordered_form p t e = subst IsOrdered (sym e) (expanded-ordered t)

-- a right result for an expression is right for an equal one
same_answer : (r : Result Poly PolyError) (t u : Term) → t ≡ u → Answers r (first_fault u) (expanded u) → Answers r (first_fault t) (expanded t)
same_answer r t u e a = subst (λ (v : Term). Answers r (first_fault v) (expanded v)) (sym e) a

same_fault : (x : PolyError) (t u : Term) → t ≡ u → Says x (first_fault u) → Says x (first_fault t)
same_fault x t u e a = subst (λ (v : Term). Says x (first_fault v)) (sym e) a

pub both-expansion-requires : goal.both-expansion-requires
both-expansion-requires t c = (let g : 2 * weight (term_of c.args.d.now) < t = omega (arith, c.decreases, weight-positive (term_of c.args.e.now)) in g, tt)

pub both-expansion-requires-in-Ok : goal.both-expansion-requires-in-Ok
both-expansion-requires-in-Ok t c = (let g : 2 * weight (term_of c.args.e.now) < t = omega (arith, c.decreases, weight-positive (term_of c.args.d.now)) in g, tt)

pub expansion-opposite_of-requires : goal.expansion-opposite_of-requires
expansion-opposite_of-requires t c = small_form (poly_of c.in-Ok.p) (term_of c.deref.result.now) c.in-Ok.ensures.0 c.in-Ok.ensures.1

pub expansion-returns-in-Ok : goal.expansion-returns-in-Ok
expansion-returns-in-Ok t c =
    let e = term_of c.deref.result.now in
    let same = ap term_of c.in-Neg.is ∙ ap (λ (x : Expr). Negation (term_of x)) (sym c.deref.ensures) in
    let p : poly_of c.opposite_of.result ≡ map opposite (expanded e) = c.opposite_of.ensures ∙ ap (map opposite) c.in-Ok.ensures.0 in
    same_answer c.limited.result (term_of c.args.e.now) (Negation e) same
    (one-answers c.limited.result (expanded (Negation e)) e (Negation e) c.in-Ok.ensures.1
    (subst (λ (q : Polynomial). Answers c.limited.result (fault_in q 1) q) p c.limited.ensures))

pub expansion-returns-in-Err : goal.expansion-returns-in-Err
expansion-returns-in-Err t c =
    let e = term_of c.deref.result.now in
    let same = ap term_of c.in-Neg.is ∙ ap (λ (x : Expr). Negation (term_of x)) (sym c.deref.ensures) in
    same_fault c.in-Err.error (term_of c.args.e.now) (Negation e) same (one-fails c.in-Err.error e (Negation e) c.in-Err.ensures)

pub expansion-limited_sum-requires-clause-ascending : goal.expansion-limited_sum-requires-clause-ascending
expansion-limited_sum-requires-clause-ascending t c = ascending_form (poly_of c.in-Ok-both.pair.left) (term_of c.deref-in-Add.result.now) c.in-Ok-both.ensures.left

pub expansion-limited_sum-requires-clause-right_ascending : goal.expansion-limited_sum-requires-clause-right_ascending
expansion-limited_sum-requires-clause-right_ascending t c = ascending_form (poly_of c.in-Ok-both.pair.right) (term_of c.deref-in-Add-2.result.now) c.in-Ok-both.ensures.right

pub expansion-limited_sum-requires-clause-left : goal.expansion-limited_sum-requires-clause-left
expansion-limited_sum-requires-clause-left t c = small_form (poly_of c.in-Ok-both.pair.left) (term_of c.deref-in-Add.result.now) c.in-Ok-both.ensures.left c.in-Ok-both.ensures.left_whole

pub expansion-limited_sum-requires-clause-right : goal.expansion-limited_sum-requires-clause-right
expansion-limited_sum-requires-clause-right t c = small_form (poly_of c.in-Ok-both.pair.right) (term_of c.deref-in-Add-2.result.now) c.in-Ok-both.ensures.right c.in-Ok-both.ensures.right_whole

pub expansion-returns-in-Ok-both : goal.expansion-returns-in-Ok-both
expansion-returns-in-Ok-both t c =
    let d = term_of c.deref-in-Add.result.now in
    let e = term_of c.deref-in-Add-2.result.now in
    let same = ap term_of c.in-Add.is ∙ (λ i. Addition (term_of (sym c.deref-in-Add.ensures i)) (term_of (sym c.deref-in-Add-2.ensures i))) in
    let right = c.in-Ok-both.ensures.right in
    same_answer c.limited_sum.result (term_of c.args.e.now) (Addition d e) same
    (two-answer c.limited_sum.result (expanded (Addition d e)) d e (Addition d e) c.in-Ok-both.ensures.left_whole c.in-Ok-both.ensures.right_whole
    (subst (λ (q : Polynomial). Answers c.limited_sum.result (fault_in q 1) q) (λ i. sum_of (c.in-Ok-both.ensures.left i) (right i)) c.limited_sum.ensures))

pub expansion-returns-in-Err-both : goal.expansion-returns-in-Err-both
expansion-returns-in-Err-both t c =
    let d = term_of c.deref-in-Add.result.now in
    let e = term_of c.deref-in-Add-2.result.now in
    let same = ap term_of c.in-Add.is ∙ (λ i. Addition (term_of (sym c.deref-in-Add.ensures i)) (term_of (sym c.deref-in-Add-2.ensures i))) in
    same_fault c.in-Err-both.error (term_of c.args.e.now) (Addition d e) same (two-fail c.in-Err-both.error d e (Addition d e) c.in-Err-both.ensures)

pub difference-opposite_of-requires : goal.difference-opposite_of-requires
difference-opposite_of-requires t c = small_form (poly_of c.in-Ok.pair.right) (term_of c.args.e.now) c.in-Ok.ensures.right c.in-Ok.ensures.right_whole

pub difference-limited_sum-requires-clause-ascending : goal.difference-limited_sum-requires-clause-ascending
difference-limited_sum-requires-clause-ascending t c = ascending_form (poly_of c.in-Ok.pair.left) (term_of c.args.d.now) c.in-Ok.ensures.left

pub difference-limited_sum-requires-clause-right_ascending : goal.difference-limited_sum-requires-clause-right_ascending
difference-limited_sum-requires-clause-right_ascending t c =
    subst IsAscending (sym c.opposite_of.ensures)
    (ascending-opposite (poly_of c.in-Ok.pair.right) (ascending_form (poly_of c.in-Ok.pair.right) (term_of c.args.e.now) c.in-Ok.ensures.right))

pub difference-limited_sum-requires-clause-left : goal.difference-limited_sum-requires-clause-left
difference-limited_sum-requires-clause-left t c = small_form (poly_of c.in-Ok.pair.left) (term_of c.args.d.now) c.in-Ok.ensures.left c.in-Ok.ensures.left_whole

pub difference-limited_sum-requires-clause-right : goal.difference-limited_sum-requires-clause-right
difference-limited_sum-requires-clause-right t c =
    subst IsSmall (sym c.opposite_of.ensures)
    (opposite-small (poly_of c.in-Ok.pair.right) (small_form (poly_of c.in-Ok.pair.right) (term_of c.args.e.now) c.in-Ok.ensures.right c.in-Ok.ensures.right_whole))

pub difference-returns-in-Ok : goal.difference-returns-in-Ok
difference-returns-in-Ok t c =
    let d = term_of c.args.d.now in
    let e = term_of c.args.e.now in
    let right = c.opposite_of.ensures ∙ ap (map opposite) c.in-Ok.ensures.right in
    two-answer c.limited_sum.result (expanded (Subtraction d e)) d e (Subtraction d e) c.in-Ok.ensures.left_whole c.in-Ok.ensures.right_whole
    (subst (λ (q : Polynomial). Answers c.limited_sum.result (fault_in q 1) q) (λ i. sum_of (c.in-Ok.ensures.left i) (right i)) c.limited_sum.ensures)

pub difference-returns-in-Err : goal.difference-returns-in-Err
difference-returns-in-Err t c =
    let d = term_of c.args.d.now in
    let e = term_of c.args.e.now in
    two-fail c.in-Err.error d e (Subtraction d e) c.in-Err.ensures

pub expansion-limited_product-requires-clause-left : goal.expansion-limited_product-requires-clause-left
expansion-limited_product-requires-clause-left t c = small_form (poly_of c.in-Ok-both-2.pair.left) (term_of c.deref-in-Mul.result.now) c.in-Ok-both-2.ensures.left c.in-Ok-both-2.ensures.left_whole

pub expansion-limited_product-requires-clause-right : goal.expansion-limited_product-requires-clause-right
expansion-limited_product-requires-clause-right t c = small_form (poly_of c.in-Ok-both-2.pair.right) (term_of c.deref-in-Mul-2.result.now) c.in-Ok-both-2.ensures.right c.in-Ok-both-2.ensures.right_whole

pub expansion-limited_product-requires-clause-left_ordered : goal.expansion-limited_product-requires-clause-left_ordered
expansion-limited_product-requires-clause-left_ordered t c = ordered_form (poly_of c.in-Ok-both-2.pair.left) (term_of c.deref-in-Mul.result.now) c.in-Ok-both-2.ensures.left

pub expansion-limited_product-requires-clause-right_ordered : goal.expansion-limited_product-requires-clause-right_ordered
expansion-limited_product-requires-clause-right_ordered t c = ordered_form (poly_of c.in-Ok-both-2.pair.right) (term_of c.deref-in-Mul-2.result.now) c.in-Ok-both-2.ensures.right

pub expansion-returns-in-Ok-both-2 : goal.expansion-returns-in-Ok-both-2
expansion-returns-in-Ok-both-2 t c =
    let d = term_of c.deref-in-Mul.result.now in
    let e = term_of c.deref-in-Mul-2.result.now in
    let same = ap term_of c.in-Mul.is ∙ (λ i. Multiplication (term_of (sym c.deref-in-Mul.ensures i)) (term_of (sym c.deref-in-Mul-2.ensures i))) in
    let right = c.in-Ok-both-2.ensures.right in
    same_answer c.limited_product.result (term_of c.args.e.now) (Multiplication d e) same
    (two-answer c.limited_product.result (expanded (Multiplication d e)) d e (Multiplication d e) c.in-Ok-both-2.ensures.left_whole c.in-Ok-both-2.ensures.right_whole
    (subst (λ (q : Polynomial). Answers c.limited_product.result (fault_in q 1) q) (λ i. product_of (c.in-Ok-both-2.ensures.left i) (right i)) c.limited_product.ensures))

pub expansion-returns-in-Err-both-2 : goal.expansion-returns-in-Err-both-2
expansion-returns-in-Err-both-2 t c =
    let d = term_of c.deref-in-Mul.result.now in
    let e = term_of c.deref-in-Mul-2.result.now in
    let same = ap term_of c.in-Mul.is ∙ (λ i. Multiplication (term_of (sym c.deref-in-Mul.ensures i)) (term_of (sym c.deref-in-Mul-2.ensures i))) in
    same_fault c.in-Err-both-2.error (term_of c.args.e.now) (Multiplication d e) same (two-fail c.in-Err-both-2.error d e (Multiplication d e) c.in-Err-both-2.ensures)

pub expansion-power-requires-clause-small : goal.expansion-power-requires-clause-small
expansion-power-requires-clause-small t c =
    small_form (poly_of c.in-Ok-expansion.p) (term_of c.deref-in-Pow.result.now) c.in-Ok-expansion.ensures.0 c.in-Ok-expansion.ensures.1

pub expansion-power-requires-clause-ordered : goal.expansion-power-requires-clause-ordered
expansion-power-requires-clause-ordered t c = ordered_form (poly_of c.in-Ok-expansion.p) (term_of c.deref-in-Pow.result.now) c.in-Ok-expansion.ensures.0

pub expansion-returns-in-Ok-expansion : goal.expansion-returns-in-Ok-expansion
expansion-returns-in-Ok-expansion t c =
    let e = term_of c.deref-in-Pow.result.now in
    let n = c.in-Pow.exponent in
    let same = ap term_of c.in-Pow.is ∙ ap (λ (x : Expr). Exponentiation (term_of x) n) (sym c.deref-in-Pow.ensures) in
    same_answer c.power.result (term_of c.args.e.now) (Exponentiation e n) same
    (power-answers c.power.result e n c.in-Ok-expansion.ensures.1
    (subst (λ (q : Polynomial). Answers c.power.result (faults_of_powers q n) (power_of q n)) c.in-Ok-expansion.ensures.0 c.power.ensures))

pub expansion-returns-in-Err-expansion : goal.expansion-returns-in-Err-expansion
expansion-returns-in-Err-expansion t c =
    let e = term_of c.deref-in-Pow.result.now in
    let n = c.in-Pow.exponent in
    let same = ap term_of c.in-Pow.is ∙ ap (λ (x : Expr). Exponentiation (term_of x) n) (sym c.deref-in-Pow.ensures) in
    same_fault c.in-Err-expansion.error (term_of c.args.e.now) (Exponentiation e n) same (power-fails c.in-Err-expansion.error e n c.in-Err-expansion.ensures)

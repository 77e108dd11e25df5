-- The value of a bound, form by form: each part comes to its value, within the limit on numbers.
use Rattle.std.proofs.Common.{◌≡◌, ◌∙◌, List, sym, ap, subst}
use Rattle.std.specs.Prelude.{IfSome}
use Rattle.bound_expr.specs.Capped.{capped}
use Rattle.bound_expr.specs.Limits.{cap}
use Rattle.signed_bounds.specs.Bounds as plain
use Rattle.signed_bounds.specs.Bounds.{MinimumOf, PowerOf, signed_val, signed_minimum}
use Rattle.signed_bounds.specs.declared.signed.Signed.{Signed}
use Rattle.signed_bounds.specs.Views.{signed_of, signeds_of, parts_of}
use Rattle.signed_bounds.proofs.Views.{signed_of-Min, signed_of-Root, signed_of-Power}
use Rattle.signed_values.proofs.Numbers.{minimum-known, root-known, power-known}
use Rattle.signed_values.proofs.Parts.{sum-step, product-step, maximum-step, minimum-step}
use Rattle.signed_values.proofs.values.+value.Goals as goal

pub capped_sum-loop-part-preserved : goal.capped_sum-loop-part-preserved
capped_sum-loop-part-preserved t c =
    sum-step c.args.parts.now c.args.start.now c.loop-part.part-index c.part-item.result c.loop-part.total
    c.in-Some.value c.capped_add-total.result
    cap c.loop-part-test.true c.part-item.is c.loop-part.invariant c.in-Some.ensures c.capped_add-total.ensures

pub capped_product-loop-part-preserved : goal.capped_product-loop-part-preserved
capped_product-loop-part-preserved t c =
    product-step c.args.parts.now c.args.start.now c.loop-part.part-index c.part-item.result c.loop-part.product
    c.in-Some.value c.capped_multiply-product.result
    cap c.loop-part-test.true c.part-item.is c.loop-part.invariant c.in-Some.ensures c.capped_multiply-product.ensures

pub capped_maximum-loop-part-preserved : goal.capped_maximum-loop-part-preserved
capped_maximum-loop-part-preserved t c =
    maximum-step c.args.parts.now c.args.start.now c.loop-part.part-index c.part-item.result c.loop-part.most
    c.in-Some.value c.max-most.result
    cap c.loop-part-test.true c.part-item.is c.loop-part.invariant c.in-Some.ensures c.max-most.ensures

pub capped_minimum-loop-part-preserved : goal.capped_minimum-loop-part-preserved
capped_minimum-loop-part-preserved t c =
    minimum-step c.args.parts.now c.args.start.now c.loop-part.part-index c.part-item.result c.loop-part.least
    c.in-Some.value c.min-least.result
    cap c.loop-part-test.true c.part-item.is c.loop-part.invariant c.in-Some.ensures c.min-least.ensures

pub capped_value-returns-in-Min : goal.capped_value-returns-in-Min
capped_value-returns-in-Min t c =
    let x = c.args.start.now in
    let first = c.in-Min.first.value in
    let parts = parts_of (signeds_of c.in-Min.parts.items) in
    let whole : signed_of c.args.bound.now ≡ MinimumOf (signed_of first) parts =
    ap signed_of c.in-Min.is ∙ signed_of-Min c.in-Min.first c.in-Min.parts in
    let known : IfSome c.capped_value.result (λ v. v ≡ capped (signed_val (signed_of first) x)) =
    subst (λ (b : Signed). IfSome c.capped_value.result (λ v. v ≡ capped (signed_val (signed_of b) x)))
    c.deref-in-Min.ensures c.capped_value.ensures in
    let others : IfSome c.capped_minimum.result (λ v. v ≡ signed_minimum parts cap x) =
    subst
    (λ (bs : List Signed). IfSome c.capped_minimum.result (λ v. v ≡ signed_minimum (parts_of (signeds_of bs)) cap x))
    c.deref-in-Min-2.ensures.value c.capped_minimum.ensures in
    subst (λ (b : plain.Signed). IfSome c.lesser_of.result (λ v. v ≡ capped (signed_val b x))) (sym whole)
    (minimum-known parts (signed_val (signed_of first) x) x c.capped_value.result c.capped_minimum.result
    c.lesser_of.result known others c.lesser_of.ensures)

pub capped_value-returns-in-Root : goal.capped_value-returns-in-Root
capped_value-returns-in-Root t c =
    let x = c.args.start.now in
    let part = c.in-Root.part.value in
    let whole : signed_of c.args.bound.now ≡ plain.Root (signed_of part) =
    ap signed_of c.in-Root.is ∙ signed_of-Root c.in-Root.part in
    let known : IfSome c.capped_value-in-Root.result (λ v. v ≡ capped (signed_val (signed_of part) x)) =
    subst (λ (b : Signed). IfSome c.capped_value-in-Root.result (λ v. v ≡ capped (signed_val (signed_of b) x)))
    c.deref-in-Root.ensures c.capped_value-in-Root.ensures in
    subst (λ (b : plain.Signed). IfSome c.root_of.result (λ v. v ≡ capped (signed_val b x))) (sym whole)
    (root-known (signed_val (signed_of part) x) c.capped_value-in-Root.result c.root_of.result known c.root_of.ensures)

pub capped_value-returns-in-Power : goal.capped_value-returns-in-Power
capped_value-returns-in-Power t c =
    let x = c.args.start.now in
    let exponent = c.in-Power.exponent.value in
    let whole : signed_of c.args.bound.now ≡ PowerOf c.in-Power.base (signed_of exponent) =
    ap signed_of c.in-Power.is ∙ signed_of-Power c.in-Power.base c.in-Power.exponent in
    let known : IfSome c.capped_value-in-Power.result (λ v. v ≡ capped (signed_val (signed_of exponent) x)) =
    subst (λ (b : Signed). IfSome c.capped_value-in-Power.result (λ v. v ≡ capped (signed_val (signed_of b) x)))
    c.deref-in-Power.ensures c.capped_value-in-Power.ensures in
    subst (λ (b : plain.Signed). IfSome c.power_of.result (λ v. v ≡ capped (signed_val b x))) (sym whole)
    (power-known c.in-Power.base (signed_val (signed_of exponent) x) c.capped_value-in-Power.result c.power_of.result
    known c.power_of.ensures)

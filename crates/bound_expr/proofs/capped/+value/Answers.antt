use Rattle.std.proofs.Common.{rules, ◌≡◌, min, length, ap, ◌∙◌, arith}
use Rattle.model.specs.Bounds.{PowerOf, val}
use Rattle.bound_expr.specs.Views.{bound_of}
use Rattle.bound_expr.specs.declared.bound.Bound.{Bound, the_lemmas}
use Rattle.bound_expr.specs.Limits.{cap}
use Rattle.bound_expr.proofs.Lists.{ReadsBelow-at}
use Rattle.bound_expr.proofs.Steps.{val_sum-step, val_product-step, val_maximum-step, power-step}
use Rattle.bound_expr.proofs.Views.{bound_of-Power}
use Rattle.bound_expr.proofs.capped.+value.Goals as goal

pub capped_sum-value_of-requires : goal.capped_sum-value_of-requires
capped_sum-value_of-requires t c = (
  search (rules, the_lemmas),
  ReadsBelow-at (length c.args.at.now) c.args.parts.now c.loop-part.part-index c.part-item.result c.requires
      c.loop-part-test.true c.part-item.is,
)

pub capped_sum-loop-part-preserved : goal.capped_sum-loop-part-preserved
capped_sum-loop-part-preserved t c =
    val_sum-step c.args.parts.now c.args.at.now c.loop-part.part-index c.part-item.result c.loop-part.total
    c.value_of.result c.capped_add-total.result
    cap c.loop-part-test.true c.part-item.is c.loop-part.invariant c.value_of.ensures c.capped_add-total.ensures

pub capped_product-value_of-requires : goal.capped_product-value_of-requires
capped_product-value_of-requires t c = (
  search (rules, the_lemmas),
  ReadsBelow-at (length c.args.at.now) c.args.parts.now c.loop-part.part-index c.part-item.result c.requires
      c.loop-part-test.true c.part-item.is,
)

pub capped_product-loop-part-preserved : goal.capped_product-loop-part-preserved
capped_product-loop-part-preserved t c =
    val_product-step c.args.parts.now c.args.at.now c.loop-part.part-index c.part-item.result c.loop-part.product
    c.value_of.result c.capped_multiply-product.result
    cap c.loop-part-test.true c.part-item.is c.loop-part.invariant c.value_of.ensures c.capped_multiply-product.ensures

pub capped_maximum-value_of-requires : goal.capped_maximum-value_of-requires
capped_maximum-value_of-requires t c = (
  search (rules, the_lemmas),
  ReadsBelow-at (length c.args.at.now) c.args.parts.now c.loop-part.part-index c.part-item.result c.requires
      c.loop-part-test.true c.part-item.is,
)

pub capped_maximum-loop-part-preserved : goal.capped_maximum-loop-part-preserved
capped_maximum-loop-part-preserved t c =
    val_maximum-step c.args.parts.now c.args.at.now c.loop-part.part-index c.part-item.result c.loop-part.maximum
    c.value_of.result c.max-maximum.result
    cap c.loop-part-test.true c.part-item.is c.loop-part.invariant c.value_of.ensures c.max-maximum.ensures

pub value_of-returns-in-Power : goal.value_of-returns-in-Power
value_of-returns-in-Power t c =
    let exponent = c.in-Power.exponent.value in
    let at = c.args.at.now in
    let base : c.from.result ≡ c.in-Power.base = c.from.ensures in
    let raised : c.value_of.result ≡ min (val (bound_of exponent) at) cap =
    c.value_of.ensures ∙ ap (λ (b : Bound). min (val (bound_of b) at) cap) c.deref-in-Power.ensures in
    let whole : bound_of c.args.bound.now ≡ PowerOf c.in-Power.base (bound_of exponent) =
    ap bound_of c.in-Power.is ∙ bound_of-Power c.in-Power.base c.in-Power.exponent in
    power-step c.in-Power.base (bound_of exponent) (bound_of c.args.bound.now) at c.from.result c.value_of.result
    c.capped_power.result cap (omega arith) whole base raised c.capped_power.ensures

use Rattle.std.proofs.Common.{arith}
use Rattle.signed_within.proofs.TotalLoops.{total-step, total-passed, total-all}
use Rattle.signed_within.proofs.product.factor_total.Goals as goal

pub loop-product-init : goal.loop-product-init
loop-product-init c = record { whole = omega arith; low = omega arith }

pub returns-then-total-gt-COMPARISON_LIMIT : goal.returns-then-total-gt-COMPARISON_LIMIT
returns-then-total-gt-COMPARISON_LIMIT c =
    total-passed c.args.products.now c.loop-product.product-index c.product-item.result c.loop-product.total
    c.product_size.result c.saturating_add-total.result c.loop-product-test.true c.product-item.is
    c.loop-product.invariant c.product_size.ensures c.saturating_add-total.ensures c.if-total-gt-COMPARISON_LIMIT.true

pub loop-product-preserved : goal.loop-product-preserved
loop-product-preserved c =
    total-step c.args.products.now c.loop-product.product-index c.product-item.result c.loop-product.total
    c.product_size.result c.saturating_add-total.result c.loop-product-test.true c.product-item.is
    c.loop-product.invariant c.product_size.ensures c.saturating_add-total.ensures
    c.if-total-gt-COMPARISON_LIMIT.false

pub returns : goal.returns
returns c =
    total-all c.args.products.now c.loop-product.product-index c.loop-product.total (omega arith)
    c.loop-product.invariant

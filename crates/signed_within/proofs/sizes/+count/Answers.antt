use Rattle.std.proofs.Common.{◌-◌, ◌^◌}
use Rattle.signed_within.proofs.SizeLoops.{count_sum-step, count_product-step}
use Rattle.signed_within.proofs.sizes.+count.Goals as goal

pub count_in_sum-loop-part-preserved : goal.count_in_sum-loop-part-preserved
count_in_sum-loop-part-preserved t c =
    count_sum-step c.args.parts.now c.loop-part.part-index c.part-item.result c.loop-part.count
    c.product_count.result c.saturating_add-count.result
    (2 ^ 64 - 1) c.loop-part-test.true c.part-item.is c.loop-part.invariant c.product_count.ensures
    c.saturating_add-count.ensures

pub count_in_product-loop-part-preserved : goal.count_in_product-loop-part-preserved
count_in_product-loop-part-preserved t c =
    count_product-step c.args.parts.now c.loop-part.part-index c.part-item.result c.loop-part.count
    c.product_count.result c.saturating_mul-count.result
    (2 ^ 64 - 1) c.loop-part-test.true c.part-item.is c.loop-part.invariant c.product_count.ensures
    c.saturating_mul-count.ensures

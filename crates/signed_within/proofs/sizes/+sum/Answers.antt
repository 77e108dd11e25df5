use Rattle.std.proofs.Common.{◌-◌, ◌^◌}
use Rattle.signed_within.proofs.SizeLoops.{number_sum-step, number_product-step}
use Rattle.signed_within.proofs.sizes.+sum.Goals as goal

pub number_sum_in_sum-loop-part-preserved : goal.number_sum_in_sum-loop-part-preserved
number_sum_in_sum-loop-part-preserved t c =
    number_sum-step c.args.parts.now c.loop-part.part-index c.part-item.result c.loop-part.sum
    c.number_sum.result c.saturating_add-sum.result
    (2 ^ 128 - 1) c.loop-part-test.true c.part-item.is c.loop-part.invariant c.number_sum.ensures
    c.saturating_add-sum.ensures

pub number_sum_in_product-loop-part-preserved : goal.number_sum_in_product-loop-part-preserved
number_sum_in_product-loop-part-preserved t c =
    number_product-step c.args.parts.now c.loop-part.part-index c.part-item.result c.loop-part.product
    c.number_sum.result c.saturating_mul-product.result
    (2 ^ 128 - 1) c.loop-part-test.true c.part-item.is c.loop-part.invariant c.number_sum.ensures
    c.saturating_mul-product.ensures

use Rattle.std.proofs.Common.{◌≡◌, ◌-◌, ◌^◌, min, take}
use Rattle.signed_bounds.specs.Views.{signeds_of, parts_of}
use Rattle.signed_bounds.specs.Products.{number_sum_of_sum, number_sum_of_product}
use Rattle.signed_within.proofs.sizes.+sum.Given as goal

abbrev pub invariant-number_sum_in_sum-loop-part : goal.invariant-number_sum_in_sum-loop-part
invariant-number_sum_in_sum-loop-part l =
    l.sum ≡ min (number_sum_of_sum (parts_of (signeds_of (take l.part-index l.parts)))) (2 ^ 128 - 1)

abbrev pub invariant-number_sum_in_product-loop-part : goal.invariant-number_sum_in_product-loop-part
invariant-number_sum_in_product-loop-part l =
    l.product ≡ min (number_sum_of_product (parts_of (signeds_of (take l.part-index l.parts)))) (2 ^ 128 - 1)

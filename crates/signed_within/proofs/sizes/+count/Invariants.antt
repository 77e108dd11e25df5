use Rattle.std.proofs.Common.{◌≡◌, ◌-◌, ◌^◌, min, take}
use Rattle.signed_bounds.specs.Views.{signeds_of, parts_of}
use Rattle.signed_bounds.specs.Products.{product_count_of_sum, product_count_of_product}
use Rattle.signed_within.proofs.sizes.+count.Given as goal

abbrev pub invariant-count_in_sum-loop-part : goal.invariant-count_in_sum-loop-part
invariant-count_in_sum-loop-part l =
    l.count ≡ min (product_count_of_sum (parts_of (signeds_of (take l.part-index l.parts)))) (2 ^ 64 - 1)

abbrev pub invariant-count_in_product-loop-part : goal.invariant-count_in_product-loop-part
invariant-count_in_product-loop-part l =
    l.count ≡ min (product_count_of_product (parts_of (signeds_of (take l.part-index l.parts)))) (2 ^ 64 - 1)

use Rattle.std.proofs.Common.{◌≡◌, ◌*◌, ◌≤◌, ◌++◌, drop}
use Rattle.signed_bounds.specs.Bounds.{ProductOf}
use Rattle.signed_bounds.specs.Limits.{constant_limit}
use Rattle.signed_bounds.specs.Views.{signeds_of, parts_of}
use Rattle.signed_bounds.specs.Products.{times_sum, number_sum_of_product, products_of, products_of_sum, multiplied_by_parts}
use Rattle.signed_within.specs.Views.{products_at}
use Rattle.signed_within.proofs.multiplying.+products.Given as goal

-- the products so far and those of the parts left are all
abbrev pub invariant-products_of_sum-loop-part : goal.invariant-products_of_sum-loop-part
invariant-products_of_sum-loop-part l =
    products_at l.products.items ++ products_of_sum (parts_of (signeds_of (drop l.part-index l.parts)))
    ≡ products_of_sum (parts_of (signeds_of l.parts))

-- the products so far times those of the parts left are the whole product, and their numbers are within the limit
abbrev pub invariant-products_of_product-loop-part : goal.invariant-products_of_product-loop-part
invariant-products_of_product-loop-part l = record {
  made : multiplied_by_parts (parts_of (signeds_of (drop l.part-index l.parts))) (products_at l.products.items)
      ≡ products_of (ProductOf (parts_of (signeds_of l.parts)));
  limited : times_sum (products_at l.products.items)
      * number_sum_of_product (parts_of (signeds_of (drop l.part-index l.parts)))
      ≤ constant_limit;
}

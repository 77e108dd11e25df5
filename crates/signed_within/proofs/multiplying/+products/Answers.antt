use Rattle.std.proofs.Common.{rules, ◌≤◌, ◌+◌, arith}
use Rattle.signed_bounds.specs.declared.signed.Signed.{the_lemmas}
use Rattle.signed_within.proofs.ProductLoops.{number_sum-at, number_sum-in_product, factors_limited, product-more, product-times}
use Rattle.signed_within.proofs.ProductLoops.{factor_limited}
use Rattle.signed_bounds.specs.Limits.{constant_limit}
use Rattle.signed_bounds.specs.Views.{signed_of}
use Rattle.signed_bounds.specs.Products.{times_sum, number_sum_of_product}
use Rattle.signed_within.specs.Views.{products_at}
use Rattle.std.proofs.Math.Nat.{mul-le-mul_right}
use Rattle.signed_within.proofs.ProductLoops as loops
use Rattle.signed_within.proofs.multiplying.+products.Goals as goal

pub products_of_sum-products_of-requires : goal.products_of_sum-products_of-requires
products_of_sum-products_of-requires t c = (
  search (rules, the_lemmas),
  omega (
    arith,
    number_sum-at c.args.parts.now c.loop-part.part-index c.part-item.result c.loop-part-test.true c.part-item.is,
  ),
)

pub products_of_product-products_of-requires : goal.products_of_product-products_of-requires
products_of_product-products_of-requires t c = (
  search (rules, the_lemmas),
  omega (
    arith,
    number_sum-in_product c.args.parts.now c.loop-part.part-index c.part-item.result c.loop-part-test.true c.part-item.is,
  ),
)

pub products_of_product-multiplied-requires : goal.products_of_product-multiplied-requires
products_of_product-multiplied-requires t c =
    rw (c.deref.ensures.value, c.deref-in-loop-part.ensures.value)
    (factors_limited c.args.parts.now c.loop-part.part-index c.part-item.result
    (times_sum (products_at c.loop-part.products.items)) constant_limit c.in_ok-factors.factors.items c.loop-part-test.true
    c.part-item.is c.in_ok-factors.ensures c.loop-part.invariant.limited)

pub products_of_product-loop-part-preserved : goal.products_of_product-loop-part-preserved
products_of_product-loop-part-preserved t c =
    let made = rw (c.deref.ensures.value, c.deref-in-loop-part.ensures.value) at c.in_ok-longer.ensures in
    let left = number_sum_of_product (loops.rest c.args.parts.now (c.loop-part.part-index + 1)) in
    let whole = product-times c.loop-part.products.items c.in_ok-factors.factors.items c.in_ok-longer.longer.items
    (signed_of c.part-item.result) c.in_ok-factors.ensures made in
    let grown = mul-le-mul_right left whole in
    record {
      made = product-more c.args.parts.now c.loop-part.part-index c.part-item.result c.loop-part.products.items
          c.in_ok-factors.factors.items c.in_ok-longer.longer.items _ c.loop-part-test.true c.part-item.is
          c.in_ok-factors.ensures made c.loop-part.invariant.made;
      limited = omega (
        arith,
        grown,
        factor_limited c.args.parts.now c.loop-part.part-index c.part-item.result
            (times_sum (products_at c.loop-part.products.items)) constant_limit c.loop-part-test.true c.part-item.is
            c.loop-part.invariant.limited,
      );
    }

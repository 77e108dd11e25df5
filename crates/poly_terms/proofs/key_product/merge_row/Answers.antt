use Rattle.std.proofs.Common.{◌+◌, ◌++◌, drop, map}
use Rattle.poly_terms.specs.Keys.{product_at}
use Rattle.poly_terms.proofs.KeyLaws.{row-step, row-next}
use Rattle.poly_terms.proofs.key_product.merge_row.Goals as goal

pub loop-f-preserved : goal.loop-f-preserved
loop-f-preserved c =
    let before = c.loop-f.merged.items ++ drop c.loop-f.i c.args.so_far.now in
    let whole = c.args.so_far.now ++ map (product_at c.args.e) c.args.right.now in
    row-step before (c.put_at_place.new.merged.items ++ drop c.in_ok-i.i c.args.so_far.now)
    (map (product_at c.args.e) (drop (c.loop-f.f-index + 1) c.args.right.now)) whole c.in_ok-product.product c.in_ok-i.ensures
    (row-next before c.args.right.now whole c.args.e _ c.in_ok-product.product c.loop-f.f-index c.loop-f-test.true c.in_ok-product.ensures c.loop-f.invariant)

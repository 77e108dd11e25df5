use Rattle.std.proofs.Common.{◌+◌, ◌++◌, drop, sym, subst, Vec, Global}
use Rattle.poly_terms.specs.declared.keyed.Keyed.{Keyed}
use Rattle.poly_terms.specs.Keys.{all_products, IsMergedFrom}
use Rattle.poly_terms.proofs.KeyLaws.{rows-next}
use Rattle.poly_terms.proofs.key_product.rows_merged.Goals as goal

pub loop-e-preserved : goal.loop-e-preserved
loop-e-preserved c =
    let whole = all_products c.args.left.now c.args.right.now in
    let rest = all_products (drop (c.loop-e.e-index + 1) c.args.left.now) c.args.right.now in
    subst (λ (v : Vec Keyed Global). IsMergedFrom (v.items ++ rest) whole) (sym c.swap.ensures.x_after)
    (rows-next c.loop-e.so_far.items c.deref.result.now c.args.left.now c.args.right.now c.merge_row.new.merged.items
    whole _ c.loop-e.e-index c.loop-e-test.true c.deref.ensures.value c.in_ok-merge_row.ensures c.loop-e.invariant)

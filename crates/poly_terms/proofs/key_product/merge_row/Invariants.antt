use Rattle.std.proofs.Common.{◌++◌, drop, map}
use Rattle.poly_terms.specs.Keys.{product_at, IsMergedFrom}
use Rattle.poly_terms.proofs.key_product.merge_row.Given as goal

-- what has been merged and what is left make up the whole
abbrev pub invariant-loop-f : goal.invariant-loop-f
invariant-loop-f l =
    IsMergedFrom ((l.merged.items ++ drop l.i l.so_far) ++ map (product_at l.e) (drop l.f-index l.right)) (l.so_far ++ map (product_at l.e) l.right)

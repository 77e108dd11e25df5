use Rattle.std.proofs.Common.{◌++◌, drop}
use Rattle.poly_terms.specs.Keys.{all_products, IsMergedFrom}
use Rattle.poly_terms.proofs.key_product.rows_merged.Given as goal

-- the rows that have been merged and the remaining ones make up the whole
abbrev pub invariant-loop-e : goal.invariant-loop-e
invariant-loop-e l = IsMergedFrom (l.so_far.items ++ all_products (drop l.e-index l.left) l.right) (all_products l.left l.right)

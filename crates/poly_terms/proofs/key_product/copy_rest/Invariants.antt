use Rattle.std.proofs.Common.{◌≡◌, ◌++◌, drop}
use Rattle.poly_terms.proofs.key_product.copy_rest.Given as goal

-- what has been copied and what is left make up the whole
abbrev pub invariant-loop-j : goal.invariant-loop-j
invariant-loop-j l = l.merged.items ++ drop l.j l.so_far ≡ l.fn.merged.items ++ drop l.i l.so_far

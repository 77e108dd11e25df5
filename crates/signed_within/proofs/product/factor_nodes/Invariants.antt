use Rattle.std.proofs.Common.{◌≡◌, ◌-◌, ◌^◌, min, take}
use Rattle.signed_bounds.specs.Products as products
use Rattle.signed_within.specs.Views.{signed_at}
use Rattle.signed_within.proofs.product.factor_nodes.Given as goal

-- the number is that of the nodes of the factors passed, up to the maximum of the type
abbrev pub invariant-loop-i : goal.invariant-loop-i
invariant-loop-i l = l.nodes ≡ min (products.factor_nodes (take l.i (signed_at l.factors))) (2 ^ 64 - 1)

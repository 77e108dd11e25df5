use Rattle.std.proofs.Common.{◌≡◌, ◌++◌, drop}
use Rattle.signed_bounds.specs.Products.{multiplied}
use Rattle.signed_within.specs.Views.{products_at}
use Rattle.signed_within.proofs.multiplying.multiplied.Given as goal

-- the products so far and those that the products left give are all
abbrev pub invariant-loop-p : goal.invariant-loop-p
invariant-loop-p l =
    products_at l.products.items ++ multiplied (products_at (drop l.p-index l.ps)) (products_at l.qs)
    ≡ multiplied (products_at l.ps) (products_at l.qs)

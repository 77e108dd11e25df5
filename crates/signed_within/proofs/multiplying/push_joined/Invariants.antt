use Rattle.std.proofs.Common.{◌≡◌, ◌++◌, map, drop}
use Rattle.signed_bounds.specs.Products.{joined}
use Rattle.signed_within.specs.Views.{product_of, products_at}
use Rattle.signed_within.proofs.multiplying.push_joined.Given as goal

-- the products so far and those that the products left give are all
abbrev pub invariant-loop-q : goal.invariant-loop-q
invariant-loop-q l =
    products_at l.products.items ++ map (joined (product_of l.p)) (products_at (drop l.q-index l.qs))
    ≡ products_at l.initial.products.items ++ map (joined (product_of l.p)) (products_at l.qs)

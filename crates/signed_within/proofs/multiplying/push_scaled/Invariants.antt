use Rattle.std.proofs.Common.{◌≡◌, ◌++◌, drop}
use Rattle.signed_bounds.specs.Products.{scaled}
use Rattle.signed_within.specs.Views.{products_at}
use Rattle.signed_within.proofs.multiplying.push_scaled.Given as goal

-- the products so far and those that the products left give are all
abbrev pub invariant-loop-q : goal.invariant-loop-q
invariant-loop-q l =
    products_at l.products.items ++ scaled l.n (products_at (drop l.q-index l.qs))
    ≡ products_at l.initial.products.items ++ scaled l.n (products_at l.qs)

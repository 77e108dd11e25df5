use Rattle.std.proofs.Common.{◌≡◌, take}
use Rattle.signed_within.specs.Views.{times_of}
use Rattle.signed_within.proofs.covering.times.Given as goal

-- the list has the numbers of the products passed
abbrev pub invariant-loop-product : goal.invariant-loop-product
invariant-loop-product l = l.numbers.items ≡ times_of (take l.product-index l.products)

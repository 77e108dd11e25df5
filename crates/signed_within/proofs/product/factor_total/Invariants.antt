use Rattle.signed_within.proofs.TotalLoops.{IsTotalSoFar}
use Rattle.signed_within.proofs.product.factor_total.Given as goal

-- the number is the size of the products passed, which is at most the limit
abbrev pub invariant-loop-product : goal.invariant-loop-product
invariant-loop-product l = IsTotalSoFar l.products l.product-index l.total

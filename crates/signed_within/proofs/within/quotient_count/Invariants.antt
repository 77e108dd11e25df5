use Rattle.std.proofs.Common.{◌≡◌, ◌≤◌, ◌+◌, drop}
use Rattle.signed_bounds.specs.Within as comparison
use Rattle.signed_within.specs.Views.{products_at}
use Rattle.signed_within.proofs.within.quotient_count.Given as goal

-- the number so far and that of the products left make the number of all
abbrev pub invariant-loop-q : goal.invariant-loop-q
invariant-loop-q l = record {
  counted : l.count + comparison.quotient_count l.den (products_at (drop l.q-index l.qs))
      ≡ comparison.quotient_count l.den (products_at l.qs);
  few : l.count ≤ l.q-index;
}

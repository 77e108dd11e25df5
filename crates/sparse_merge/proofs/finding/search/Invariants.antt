use Rattle.std.proofs.Common.{◌-◌}
use Rattle.sparse_merge.specs.Listing.{LiesWithin}
use Rattle.sparse_merge.proofs.finding.search.Given as goal

-- if the list has a cell at the place, its index is in the remaining range
abbrev pub invariant-halving : goal.invariant-halving
invariant-halving g l = LiesWithin g.C.Cell.place_of l.cells l.place l.low l.high

abbrev pub decreases-halving : goal.decreases-halving
decreases-halving g l = l.high - l.low

use Rattle.std.proofs.Common.{◌+◌, length}
use Rattle.sparse_merge.specs.Merging.{IsMerged}
use Rattle.sparse_merge.proofs.merging.merge_into.Given as goal

-- all places below the next one are merged
abbrev pub invariant-places : goal.invariant-places
invariant-places g l =
    IsMerged g.C.Cell.place_of g.C.Cell.fits (g.J.Join.joins l.join) l.initial.left l.left l.initial.right l.right l.made.items

abbrev pub decreases-places : goal.decreases-places
decreases-places g l = length l.left + length l.right

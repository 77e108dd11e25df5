use Rattle.std.proofs.Common.{[], not}
use Rattle.std.specs.List.{count_by}
use Rattle.its_graph.specs.Orders.{IsSorting}
use Rattle.its_graph.proofs.order.sorted.Given as goal

abbrev pub invariant-loop-leader : goal.invariant-loop-leader
invariant-loop-leader l = IsSorting l.needs l.leaders [] l.sorting

-- The number of leaders that aren't listed.
abbrev pub decreases-loop-leader : goal.decreases-loop-leader
decreases-loop-leader l = count_by not l.sorting.is_listed.items

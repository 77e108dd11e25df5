use Rattle.std.proofs.Common.{◌≡◌, drop}
use Rattle.its_graph.specs.Orders.{IsSorting}
use Rattle.its_graph.proofs.order.Sorting.settle_all.Given as goal

abbrev pub invariant-loop-leader : goal.invariant-loop-leader
invariant-loop-leader l = record {
  sorting : IsSorting l.needs l.leaders (drop l.leader-index l.unsettled) l.self;
  marks : l.self.is_listed.items ≡ l.initial.self.is_listed.items;
}

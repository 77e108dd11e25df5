use Rattle.std.proofs.Common.{◌≡◌, ◌++◌, drop}
use Rattle.its_graph.specs.Orders.{needs_among}
use Rattle.its_graph.proofs.order.needs_of.Given as goal

abbrev pub invariant-loop-from : goal.invariant-loop-from
invariant-loop-from l = l.needs.items ++ needs_among l.leaders (drop l.from-index l.edges) ≡ needs_among l.leaders l.edges

use Rattle.its_graph.proofs.OwnLeaders.{AreOwn}
use Rattle.its_graph.proofs.order.own_leaders.Given as goal

abbrev pub invariant-loop-node : goal.invariant-loop-node
invariant-loop-node l = AreOwn l.leaders l.own.items l.node

use Rattle.its_graph.proofs.Naming.{AreFirstSoFar}
use Rattle.its_graph.proofs.classes.add_first.Given as goal

abbrev pub invariant-loop-node : goal.invariant-loop-node
invariant-loop-node l = AreFirstSoFar l.names l.first l.leaders.items l.node

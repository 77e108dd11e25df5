use Rattle.std.proofs.Common.{length}
use Rattle.its_graph.specs.Walks.{IsWalk}
use Rattle.its_graph.proofs.roots.left_last.Given as goal

abbrev pub invariant-loop : goal.invariant-loop
invariant-loop l = IsWalk (length l.next) l.walk

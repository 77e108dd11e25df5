use Rattle.std.proofs.Common.{◌≡◌, ◌++◌, drop}
use Rattle.its_graph.specs.Members.{numbered}
use Rattle.its_graph.proofs.listing.numbered_by.Given as goal

abbrev pub invariant-loop-node : goal.invariant-loop-node
invariant-loop-node l = l.pairs.items ++ numbered l.positions l.node (drop l.node l.leaders) ≡ numbered l.positions 0 l.leaders

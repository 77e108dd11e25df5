use Rattle.std.proofs.Common.{◌≡◌, drop}
use Rattle.its_graph.specs.Naming.{named}
use Rattle.its_graph.proofs.classes.name_all.Given as goal

-- Naming the remaining nodes from the current names gives the same names as naming all nodes from the first ones.
abbrev pub invariant-loop-node : goal.invariant-loop-node
invariant-loop-node l = named l.fn.name (drop l.node-index l.nodes) l.names ≡ named l.fn.name l.nodes l.fn.names

use Rattle.std.proofs.Common.{◌≡◌, ◌++◌, drop, suc}
use Rattle.its_graph.specs.Links.{arrivals, arrivals_from}
use Rattle.its_graph.proofs.graph.arrivals_of.Given as goal

abbrev pub invariant-loop-position : goal.invariant-loop-position
invariant-loop-position l = l.pairs.items ++ arrivals_from (suc l.position) (drop l.position l.links) ≡ arrivals l.fn.start l.links

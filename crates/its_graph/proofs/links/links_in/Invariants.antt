use Rattle.std.proofs.Common.{◌≡◌, map, take}
use Rattle.its_graph.specs.Links.{link_of}
use Rattle.its_graph.proofs.links.links_in.Given as goal

abbrev pub invariant-loop-rule : goal.invariant-loop-rule
invariant-loop-rule l = l.links.items ≡ map link_of (take l.rule-index l.rules)

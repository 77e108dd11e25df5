use Rattle.std.proofs.Common.{◌≡◌, ◌++◌, drop, suc}
use Rattle.its_graph.specs.Links.{members_from}
use Rattle.its_graph.proofs.graph.members.Given as goal

abbrev pub invariant-loop-position : goal.invariant-loop-position
invariant-loop-position l = l.found.items ++ members_from l.untimed l.seen l.fn.rule (suc l.position) (drop l.position l.links) ≡ members_from l.untimed l.seen l.fn.rule 1 l.links

use Rattle.std.proofs.Common.{◌≡◌, ◌++◌, drop, suc}
use Rattle.its_graph.specs.Links.{kept_links}
use Rattle.its_graph.proofs.links.allowed_links.Given as goal

abbrev pub invariant-loop-position : goal.invariant-loop-position
invariant-loop-position l = l.kept.items ++ kept_links l.allowed (suc l.position) (drop l.position l.links) ≡ kept_links l.allowed 1 l.links

use Rattle.std.proofs.Common.{◌≡◌, ◌++◌, drop, map}
use Rattle.cert_types.specs.Views.{member_of}
use Rattle.size_nodes.specs.Flows.{rules_after}
use Rattle.size_nodes.proofs.rules.rules_in.Given as goal

abbrev pub invariant-loop-member : goal.invariant-loop-member
invariant-loop-member l =
    l.rules.items ++ rules_after l.last (map member_of (drop l.member-index l.members))
    ≡ rules_after 0 (map member_of l.members)

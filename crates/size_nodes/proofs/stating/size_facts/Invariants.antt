use Rattle.std.proofs.Common.{◌≡◌, ◌++◌, drop, map}
use Rattle.bound_expr.specs.Views.{bound_of}
use Rattle.cert_types.specs.cert_rules.AcceptsSizes.{cycle_facts}
use Rattle.cert_types.specs.Views.{member_of, facts_of}
use Rattle.size_nodes.proofs.stating.size_facts.Given as goal

abbrev pub invariant-loop-member : goal.invariant-loop-member
invariant-loop-member l =
    facts_of l.facts.items ++ cycle_facts (bound_of l.bound) (map member_of (drop l.member-index l.members))
    ≡ cycle_facts (bound_of l.bound) (map member_of l.members)

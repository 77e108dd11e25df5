use Rattle.std.proofs.Common.{◌≡◌, drop, map}
use Rattle.std.specs.List.{list_any}
use Rattle.cert_types.specs.cert_rules.ComposedSizes.{is_member}
use Rattle.cert_types.specs.Views.{member_of}
use Rattle.size_nodes.proofs.nonlinear.has_member.Given as goal

abbrev pub invariant-loop-variable : goal.invariant-loop-variable
invariant-loop-variable l =
    list_any (is_member (map member_of l.members) l.rule) (drop l.variable-index l.variables)
    ≡ list_any (is_member (map member_of l.members) l.rule) l.variables

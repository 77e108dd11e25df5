use Rattle.std.proofs.Common.{◌≡◌, ◌++◌, drop, map}
use Rattle.model.specs.Programs.{Program}
use Rattle.cert_types.specs.cert_rules.ComposedSizes.{flows_into}
use Rattle.cert_types.specs.cert_program.Setting.{setting_of}
use Rattle.cert_types.specs.Views.{member_of}
use Rattle.size_nodes.specs.Members.{AreMembersIn}
use Rattle.size_nodes.specs.Flows.{flow_of}
use Rattle.size_nodes.proofs.flow.flows_in.Given as goal

abbrev pub invariant-loop-member : goal.invariant-loop-member
invariant-loop-member g l =
    (p : Program) → AreMembersIn p l.transitions (map member_of l.scope.cycle.now.members.now)
    → map flow_of l.flows.items ++ flows_into (setting_of p) (map member_of l.scope.cycle.now.members.now) (g.K.Known.table l.scope.known.now).size
    (map member_of (drop l.member-index l.scope.cycle.now.members.now))
    ≡ flows_into (setting_of p) (map member_of l.scope.cycle.now.members.now) (g.K.Known.table l.scope.known.now).size (map member_of l.scope.cycle.now.members.now)

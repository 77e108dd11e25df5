use Rattle.std.proofs.Common.{◌≡◌, ◌++◌, drop, map}
use Rattle.cert_types.specs.Composing.{optional_poly}
use Rattle.cert_types.specs.Views.{member_of}
use Rattle.size_nodes.specs.Flows.{flow_of, flows_over}
use Rattle.size_nodes.proofs.flow.push_flows.Given as goal

abbrev pub invariant-loop-rule : goal.invariant-loop-rule
invariant-loop-rule g l =
    map flow_of l.flows.items ++ flows_over (optional_poly l.sink.poly) (map member_of l.scope.cycle.now.members.now) (g.K.Known.table l.scope.known.now).size
    (member_of l.sink.member.now) (drop l.rule-index l.before)
    ≡ map flow_of l.fn.flows.items ++ flows_over (optional_poly l.sink.poly) (map member_of l.scope.cycle.now.members.now) (g.K.Known.table l.scope.known.now).size
    (member_of l.sink.member.now) l.before

use Rattle.std.proofs.Common.{List, map, refl}
use Rattle.model.specs.Paths.{pre}
use Rattle.cert_types.specs.cert_rules.ComposedSizes.{flows_from, flows_into}
use Rattle.cert_types.specs.cert_program.Setting.{setting_of}
use Rattle.cert_types.specs.declared.side_bound.Member.{Member}
use Rattle.cert_types.specs.Views.{member_of}
use Rattle.size_nodes.specs.Flows.{flow_of}
use Rattle.size_nodes.specs.Members.{IsMemberIn}
use Rattle.size_nodes.proofs.ListSteps.{one_more}
use Rattle.size_nodes.proofs.ProgramMembers.{given_at}
use Rattle.size_nodes.proofs.flow.flows_in.Goals as goal

pub push_flows_into-requires : goal.push_flows_into-requires
push_flows_into-requires g c = (
  c.requires.0,
  given_at c.requires.0 c.args.transitions.now.graph.now c.args.transitions.now.rows.now c.args.scope.now.cycle.now.members.now
      c.loop-member.member-index c.member-item.result c.requires.1 c.loop-member-test.true c.member-item.is,
)

pub loop-member-preserved : goal.loop-member-preserved
loop-member-preserved g c = λ p h.
    let given : IsMemberIn p c.args.transitions.now (member_of c.member-item.result) =
    given_at p c.args.transitions.now.graph.now c.args.transitions.now.rows.now c.args.scope.now.cycle.now.members.now c.loop-member.member-index c.member-item.result h
    c.loop-member-test.true c.member-item.is in
    let ms = map member_of c.args.scope.now.cycle.now.members.now in
    let size = (g.K.Known.table c.args.scope.now.known.now).size in
    one_more (λ (ns : List Member). flows_into (setting_of p) ms size (map member_of ns))
    (λ (m : Member). flows_from (setting_of p) ms size (member_of m) (pre p m.result_variable.rule)) (λ x ys. refl)
    c.args.scope.now.cycle.now.members.now c.loop-member.member-index c.member-item.result (map flow_of c.loop-member.flows.items)
    (map flow_of c.push_flows_into.new.flows.items) _ c.loop-member-test.true c.member-item.is (c.loop-member.invariant p h)
    (c.in_ok-push_flows_into.ensures {u = tt} p given)

use Rattle.std.proofs.Common.{◌++◌, List, map, get_or, ap, ◌∙◌}
use Rattle.cert_types.specs.cert_rules.ComposedSizes.{Flow}
use Rattle.cert_types.specs.Composing.{optional_poly}
use Rattle.cert_types.specs.Views.{member_of}
use Rattle.size_nodes.specs.Flows.{flow_of}
use Rattle.size_nodes.proofs.LoopFlows.{same-flows, flows-more}
use Rattle.size_nodes.proofs.flow.push_flows.Goals as goal

pub loop-rule-preserved : goal.loop-rule-preserved
loop-rule-preserved g c =
    let q = optional_poly c.args.sink.now.poly in
    let size = (g.K.Known.table c.args.scope.now.known.now).size in
    let m = member_of c.args.sink.now.member.now in
    let ms = map member_of c.args.scope.now.cycle.now.members.now in
    let done = map flow_of c.loop-rule.flows.items in
    let e = get_or c.args.before.now c.loop-rule.rule-index 0 in
    flows-more q size m ms c.args.before.now c.loop-rule.rule-index done (map flow_of c.push_both.new.flows.items) _
    c.loop-rule-test.true c.loop-rule.invariant
    (c.in_ok-push_both.ensures {u = tt} ∙ ap (λ (fs : List Flow). done ++ fs)
    (same-flows q size m (map member_of c.after.result.now) ms e c.after.ensures))

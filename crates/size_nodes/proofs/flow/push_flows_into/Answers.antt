use Rattle.std.proofs.Common.{◌≡◌, ◌++◌, List, map, ap, ◌∙◌}
use Rattle.std.proofs.lemmas.Result.{IfOk-weaker}
use Rattle.model.specs.Programs.{Program}
use Rattle.model.specs.Paths.{pre}
use Rattle.cert_types.specs.cert_rules.ComposedSizes.{Flow, flows_from}
use Rattle.cert_types.specs.cert_program.Setting.{setting_of}
use Rattle.cert_types.specs.Composing.{optional_poly}
use Rattle.cert_types.specs.Views.{member_of}
use Rattle.size_nodes.specs.Flows.{flow_of, flows_over}
use Rattle.size_nodes.specs.Members.{IsMemberIn}
use Rattle.size_nodes.proofs.LoopMembers.{linked, limited}
use Rattle.size_nodes.proofs.LoopFlows.{flows-over}
use Rattle.size_nodes.proofs.flow.push_flows_into.Goals as goal

pub poly_at-poly-requires : goal.poly_at-poly-requires
poly_at-poly-requires g c = (c.requires.0, (c.requires.1.valid, (c.requires.1.rows, c.requires.1.shape.at)))

pub pre-before-requires : goal.pre-before-requires
pre-before-requires g c = record {
  graph = (c.requires.0, c.requires.1.graph);
  number = linked c.requires.0 c.args.transitions.now.graph.now c.args.transitions.now.rows.now (member_of c.args.member.now) c.requires.1;
}

pub push_flows-requires : goal.push_flows-requires
push_flows-requires g c =
    let m = c.args.member.now in
    let side_bounds = limited c.requires.0 c.args.transitions.now.graph.now c.args.transitions.now.rows.now (member_of m) c.requires.1 in record {
      up = side_bounds m.local.up c.requires.1.shape.up;
      low = side_bounds m.local.low c.requires.1.shape.low;
      few = c.poly_at-poly.ensures.few;
    }

pub returns : goal.returns
returns g c =
    let ms = map member_of c.args.scope.now.cycle.now.members.now in
    let m = member_of c.args.member.now in
    let size = (g.K.Known.table c.args.scope.now.known.now).size in
    let old = map flow_of c.args.flows.now.items in
    let new = map flow_of c.push_flows.new.flows.items in
    IfOk-weaker c.push_flows.result
    (λ x. new ≡ old ++ flows_over (optional_poly c.poly_at-poly.result) ms size m c.pre-before.result.now)
    (λ x. (p : Program) → IsMemberIn p c.args.transitions.now m
    → new ≡ old ++ flows_from (setting_of p) ms size m (pre p m.result_variable.rule))
    (λ x k p h. k ∙ ap (λ (fs : List Flow). old ++ fs)
    ((λ i. flows_over (c.poly_at-poly.ensures.seen p h.rows h.shape.at i) ms size m (c.pre-before.ensures p h.graph i))
    ∙ flows-over (setting_of p) ms size m (pre p m.result_variable.rule)))
    c.push_flows.ensures

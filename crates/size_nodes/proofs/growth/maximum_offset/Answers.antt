use Rattle.std.proofs.Common.{◌≤◌, ◌∙◌, length, map, ap, arith}
use Rattle.model.specs.Bounds.{MaximumOf}
use Rattle.bound_expr.specs.Views.{bounds_of, parts_of}
use Rattle.bound_expr.proofs.Views.{bound_of-Max}
use Rattle.size_nodes.specs.declared.flow.Flow.{Flow}
use Rattle.size_nodes.specs.Flows.{flow_of}
use Rattle.size_nodes.specs.Growths.{is_of, offset_part}
use Rattle.size_nodes.proofs.JoinedParts.{parts_more, parts_done, joined-map, offsets-joined}
use Rattle.size_nodes.proofs.growth.maximum_offset.Goals as goal

pub loop-flow-preserved : goal.loop-flow-preserved
loop-flow-preserved c =
    parts_more (λ (f : Flow). offset_part (is_of c.args.kind) (flow_of f)) c.args.flows.now c.loop-flow.flow-index
    c.flow-item.result (parts_of (bounds_of c.loop-flow.parts.items)) (parts_of (bounds_of c.push_offset.new.parts.items)) _
    c.loop-flow-test.true c.flow-item.is c.loop-flow.invariant (c.in_ok-push_offset.ensures {u = tt})

pub returns : goal.returns
returns c =
    let end : length c.args.flows.now ≤ c.loop-flow.flow-index = omega (arith, c.loop-flow-test.false) in
    bound_of-Max c.loop-flow.parts ∙ ap MaximumOf
    (parts_done (λ (f : Flow). offset_part (is_of c.args.kind) (flow_of f)) c.args.flows.now c.loop-flow.flow-index
    (parts_of (bounds_of c.loop-flow.parts.items)) _ end c.loop-flow.invariant
    ∙ (joined-map (offset_part (is_of c.args.kind)) flow_of c.args.flows.now
    ∙ offsets-joined (is_of c.args.kind) (map flow_of c.args.flows.now)))

use Rattle.std.proofs.Common.{◌≡◌, drop}
use Rattle.bound_expr.specs.Views.{bounds_of, parts_of}
use Rattle.cert_types.specs.Sizes.{joined}
use Rattle.size_nodes.specs.Flows.{flow_of}
use Rattle.size_nodes.specs.Growths.{is_of, offset_part, all_joined}
use Rattle.size_nodes.proofs.growth.maximum_offset.Given as goal

abbrev pub invariant-loop-flow : goal.invariant-loop-flow
invariant-loop-flow l =
    joined (parts_of (bounds_of l.parts.items))
    (all_joined (λ f. offset_part (is_of l.kind) (flow_of f)) (drop l.flow-index l.flows))
    ≡ all_joined (λ f. offset_part (is_of l.kind) (flow_of f)) l.flows

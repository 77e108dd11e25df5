use Rattle.std.proofs.Common.{◌-◌, ◌^◌}
use Rattle.signed_bounds.proofs.PartLoops.{node_count-step}
use Rattle.signed_bounds.proofs.measured.+nodes.Goals as goal

pub nodes_in_all-loop-part-preserved : goal.nodes_in_all-loop-part-preserved
nodes_in_all-loop-part-preserved t c =
    node_count-step c.args.parts.now c.loop-part.part-index c.part-item.result c.loop-part.nodes c.nodes_in.result
    c.saturating_add-nodes.result
    (2 ^ 64 - 1) c.loop-part-test.true c.part-item.is c.loop-part.invariant c.nodes_in.ensures
    c.saturating_add-nodes.ensures

use Rattle.std.proofs.Common.{◌-◌, ◌^◌, arith}
use Rattle.signed_within.proofs.TotalLoops.{nodes-step, nodes-all}
use Rattle.signed_within.proofs.product.factor_nodes.Goals as goal

pub loop-i-preserved : goal.loop-i-preserved
loop-i-preserved c =
    nodes-step c.args.factors.now c.loop-i.i c.index-factors-i.result c.loop-i.nodes c.node_count.result
    c.saturating_add-nodes.result
    (2 ^ 64 - 1) (omega arith) c.index-factors-i.is c.loop-i.invariant c.node_count.ensures
    c.saturating_add-nodes.ensures

pub returns : goal.returns
returns c = nodes-all c.args.factors.now c.loop-i.i c.loop-i.nodes (2 ^ 64 - 1) (omega arith) c.loop-i.invariant

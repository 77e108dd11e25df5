use Rattle.std.proofs.Common.{map, arith}
use Rattle.size_nodes.specs.Flows.{flow_of}
use Rattle.size_nodes.proofs.JoinedParts.{factor-begun}
use Rattle.size_nodes.proofs.growth.factor.Goals as goal

pub loop-flow-init : goal.loop-flow-init
loop-flow-init c = record {
  least = omega arith;
  whole = factor-begun (map flow_of c.args.flows.now) c.args.rule;
}

use Rattle.std.proofs.Common.{◌≡◌, ◌≤◌, max, drop, map}
use Rattle.cert_types.specs.cert_rules.ComposedSizes.{factor_of}
use Rattle.size_nodes.specs.Flows.{flow_of}
use Rattle.size_nodes.proofs.growth.factor.Given as goal

abbrev pub invariant-loop-flow : goal.invariant-loop-flow
invariant-loop-flow l = record {
  least : 1 ≤ l.maximum;
  whole : max l.maximum (factor_of (map flow_of (drop l.flow-index l.flows)) l.rule) ≡ factor_of (map flow_of l.flows) l.rule;
}

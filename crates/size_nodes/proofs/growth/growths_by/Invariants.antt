use Rattle.std.proofs.Common.{◌≡◌, ◌++◌, drop, map}
use Rattle.size_nodes.specs.Flows.{flow_of}
use Rattle.size_nodes.specs.Growths.{growth_of, growth_by_flows}
use Rattle.size_nodes.proofs.growth.growths_by.Given as goal

abbrev pub invariant-loop-rule : goal.invariant-loop-rule
invariant-loop-rule l =
    map growth_of l.growths.items ++ map (growth_by_flows (map flow_of l.flows)) (drop l.rule-index l.rules)
    ≡ map (growth_by_flows (map flow_of l.flows)) l.rules

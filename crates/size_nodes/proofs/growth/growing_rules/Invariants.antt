use Rattle.std.proofs.Common.{◌≡◌, ◌++◌, drop, map}
use Rattle.size_nodes.specs.Growths.{growth_of, growing_rule_numbers}
use Rattle.size_nodes.proofs.growth.growing_rules.Given as goal

abbrev pub invariant-loop-growth : goal.invariant-loop-growth
invariant-loop-growth l =
    l.rules.items ++ growing_rule_numbers (map growth_of (drop l.growth-index l.growths)) ≡ growing_rule_numbers (map growth_of l.growths)

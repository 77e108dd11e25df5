use Rattle.std.proofs.Common.{◌≡◌, drop, map}
use Rattle.std.specs.List.{list_all}
use Rattle.potential_nodes.specs.Limits.{is_small_counted}
use Rattle.potential_types.specs.Views.{counted_of}
use Rattle.potential_types.proofs.limits.all_counted.Given as goal

-- whether all counted rules are small depends on those left
abbrev pub invariant-loop-rule : goal.invariant-loop-rule
invariant-loop-rule l =
    list_all is_small_counted (map counted_of (drop l.rule-index l.counted))
    ≡ list_all is_small_counted (map counted_of (l.counted))

use Rattle.std.proofs.Common.{◌≡◌, ◌-◌, ◌≤◌, [], take, drop, length}
use Rattle.bound_expr.specs.Views.{bounds_of}
use Rattle.bound_table.specs.Dominance.{dominant_after}
use Rattle.bound_table.proofs.dominance.without_lower.Given as goal

abbrev pub invariant-loop-position : goal.invariant-loop-position
invariant-loop-position l = record {
  left : dominant_after (take l.position (bounds_of l.kept.items)) (drop l.position (bounds_of l.kept.items))
      ≡ dominant_after [] (bounds_of l.fn.parts.items);
  within : l.position ≤ length l.kept.items;
}

abbrev pub decreases-loop-position : goal.decreases-loop-position
decreases-loop-position l = length l.kept.items - l.position

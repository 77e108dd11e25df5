use Rattle.std.proofs.Common.{◌≡◌, ◌+◌, ◌-◌, ◌^◌, ◌≤◌, min, drop}
use Rattle.bound_expr.specs.Views.{bounds_of, parts_of}
use Rattle.bound_expr.specs.Measure.{node_count_of_all}
use Rattle.bound_table.specs.Distribution.{each_in_place}
use Rattle.bound_table.proofs.distribution.nodes_in_places.Given as goal

abbrev pub invariant-loop-part : goal.invariant-loop-part
invariant-loop-part l = record {
  others : l.others ≡ min
      (node_count_of_all (parts_of (bounds_of l.before)) + node_count_of_all (parts_of (bounds_of l.after))) (2 ^ 64 - 1);
  counted : min
      (l.nodes + node_count_of_all (parts_of (each_in_place (bounds_of l.before) (bounds_of l.after) (bounds_of (drop l.part-index l.parts)))))
      (2 ^ 64 - 1)
      ≡ min
      (1 + node_count_of_all (parts_of (each_in_place (bounds_of l.before) (bounds_of l.after) (bounds_of l.parts))))
      (2 ^ 64 - 1);
  small : l.nodes ≤ 2 ^ 64 - 1;
}

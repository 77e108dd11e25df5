use Rattle.std.proofs.Common.{◌≡◌, ◌-◌, ◌^◌, min, take}
use Rattle.bound_expr.specs.Views.{bounds_of, parts_of}
use Rattle.bound_expr.specs.Measure.{node_count_of_all}
use Rattle.bound_expr.proofs.measured.+nodes.Given as goal

abbrev pub invariant-nodes_in_all-loop-part : goal.invariant-nodes_in_all-loop-part
invariant-nodes_in_all-loop-part l =
    l.nodes ≡ min (node_count_of_all (parts_of (bounds_of (take l.part-index l.parts)))) (2 ^ 64 - 1)

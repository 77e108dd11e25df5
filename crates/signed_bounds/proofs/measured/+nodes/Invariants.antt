use Rattle.std.proofs.Common.{◌≡◌, ◌-◌, ◌^◌, min, take}
use Rattle.signed_bounds.specs.Views.{signeds_of, parts_of}
use Rattle.signed_bounds.specs.Measure.{node_count_of_all}
use Rattle.signed_bounds.proofs.measured.+nodes.Given as goal

abbrev pub invariant-nodes_in_all-loop-part : goal.invariant-nodes_in_all-loop-part
invariant-nodes_in_all-loop-part l =
    l.nodes ≡ min (node_count_of_all (parts_of (signeds_of (take l.part-index l.parts)))) (2 ^ 64 - 1)

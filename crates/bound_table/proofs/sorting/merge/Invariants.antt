use Rattle.std.proofs.Common.{◌≡◌, ◌++◌}
use Rattle.std.specs.Vec.Iter.{into_iter_items}
use Rattle.bound_expr.specs.Views.{bounds_of}
use Rattle.bound_table.specs.Sorting.{merged}
use Rattle.bound_table.proofs.sorting.merge.Given as goal

abbrev pub invariant-loop-part : goal.invariant-loop-part
invariant-loop-part l =
    bounds_of l.all.items ++ merged l.kind (bounds_of (into_iter_items l.part-iterator)) (bounds_of l.rest.items)
    ≡ merged l.kind (bounds_of l.fn.first.items) (bounds_of l.fn.second.items)

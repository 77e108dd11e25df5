use Rattle.std.proofs.Common.{◌≡◌, ◌++◌, length}
use Rattle.bound_expr.specs.Views.{bound_of, bounds_of}
use Rattle.bound_table.specs.Sorting.{coming_before, not_before}
use Rattle.bound_table.proofs.sorting.move_before.Given as goal

abbrev pub invariant-loop-kind : goal.invariant-loop-kind
invariant-loop-kind l = record {
  moved : bounds_of l.all.items ++ coming_before l.kind (bound_of l.part) (bounds_of l.rest.items)
      ≡ bounds_of l.initial.all.items ++ coming_before l.kind (bound_of l.part) (bounds_of l.initial.rest.items);
  left : not_before l.kind (bound_of l.part) (bounds_of l.rest.items)
      ≡ not_before l.kind (bound_of l.part) (bounds_of l.initial.rest.items);
}

abbrev pub decreases-loop-kind : goal.decreases-loop-kind
decreases-loop-kind l = length l.rest.items

use Rattle.std.proofs.Common.{◌≡◌, ◌++◌, length}
use Rattle.bound_expr.specs.Views.{bounds_of}
use Rattle.bound_table.proofs.sorting.move_all.Given as goal

abbrev pub invariant-loop-first : goal.invariant-loop-first
invariant-loop-first l =
    bounds_of l.all.items ++ bounds_of l.rest.items ≡ bounds_of l.initial.all.items ++ bounds_of l.initial.rest.items

abbrev pub decreases-loop-first : goal.decreases-loop-first
decreases-loop-first l = length l.rest.items

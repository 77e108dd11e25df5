use Rattle.std.specs.Vec.Iter.{into_iter_items}
use Rattle.bound_expr.specs.Views.{bounds_of}
use Rattle.bound_table.proofs.Runs.{Stands}
use Rattle.bound_table.proofs.joining.runs_joined.Given as goal

abbrev pub invariant-loop-part : goal.invariant-loop-part
invariant-loop-part l =
    Stands l.joining (bounds_of l.done.items) (bounds_of l.run.items) (bounds_of (into_iter_items l.part-iterator))
    (bounds_of l.fn.parts.items)

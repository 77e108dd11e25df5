use Rattle.std.proofs.Common.{◌≡◌, ◌++◌}
use Rattle.std.specs.Vec.Iter.{into_iter_items}
use Rattle.bound_expr.specs.Views.{bounds_of}
use Rattle.bound_table.specs.Folding.{spliced}
use Rattle.bound_table.proofs.folding.spliced.Given as goal

abbrev pub invariant-loop-part : goal.invariant-loop-part
invariant-loop-part l =
    bounds_of l.flat.items ++ spliced l.kind (bounds_of (into_iter_items l.part-iterator)) ≡ spliced l.kind
    (bounds_of l.fn.parts.items)

use Rattle.std.proofs.Common.{◌≡◌, ◌++◌, drop}
use Rattle.bound_expr.specs.Views.{bounds_of}
use Rattle.bound_table.specs.Distribution.{each_in_place}
use Rattle.bound_table.proofs.distribution.sum_in_places.Given as goal

abbrev pub invariant-loop-part : goal.invariant-loop-part
invariant-loop-part l =
    bounds_of l.products.items
    ++ each_in_place (bounds_of l.before) (bounds_of l.after) (bounds_of (drop l.part-index l.parts))
    ≡ each_in_place (bounds_of l.before) (bounds_of l.after) (bounds_of l.parts)

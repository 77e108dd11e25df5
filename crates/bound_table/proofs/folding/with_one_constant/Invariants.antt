use Rattle.std.proofs.Common.{◌≡◌, ◌++◌, cond}
use Rattle.std.specs.Vec.Iter.{into_iter_items}
use Rattle.bound_expr.specs.Views.{bounds_of}
use Rattle.bound_table.specs.Folding.{without_constants, with_one_constant}
use Rattle.bound_table.proofs.folding.with_one_constant.Given as goal

abbrev pub invariant-loop-part : goal.invariant-loop-part
invariant-loop-part l =
    bounds_of l.kept.items
    ++ cond l.inserted (without_constants (bounds_of (into_iter_items l.part-iterator)))
    (with_one_constant l.constant (bounds_of (into_iter_items l.part-iterator)))
    ≡ with_one_constant l.constant (bounds_of l.fn.parts.items)

use Rattle.std.proofs.Common.{◌≡◌, ◌++◌, cond}
use Rattle.std.specs.Vec.Iter.{into_iter_items}
use Rattle.bound_expr.specs.Views.{bounds_of}
use Rattle.bound_table.specs.Powers.{but_first_constant}
use Rattle.bound_table.proofs.powers.but_first_constant.Given as goal

abbrev pub invariant-loop-part : goal.invariant-loop-part
invariant-loop-part l =
    bounds_of l.others.items
    ++ cond l.dropped (bounds_of (into_iter_items l.part-iterator))
    (but_first_constant (bounds_of (into_iter_items l.part-iterator)))
    ≡ but_first_constant (bounds_of l.fn.parts.items)

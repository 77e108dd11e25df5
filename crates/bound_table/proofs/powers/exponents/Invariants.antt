use Rattle.std.proofs.Common.{◌≡◌, ◌++◌}
use Rattle.std.specs.Vec.Iter.{into_iter_items}
use Rattle.bound_expr.specs.Views.{bounds_of}
use Rattle.bound_table.specs.Powers.{exponents_of}
use Rattle.bound_table.proofs.powers.exponents.Given as goal

abbrev pub invariant-loop-power : goal.invariant-loop-power
invariant-loop-power l =
    bounds_of l.all.items ++ exponents_of (bounds_of (into_iter_items l.power-iterator)) ≡ exponents_of
    (bounds_of l.fn.powers.items)

use Rattle.std.proofs.Common.{◌≡◌, ◌++◌, drop}
use Rattle.bound_expr.specs.Views.{bounds_of}
use Rattle.bound_table.proofs.distribution.push_copies.Given as goal

abbrev pub invariant-loop-bound : goal.invariant-loop-bound
invariant-loop-bound l =
    bounds_of l.copies.items ++ bounds_of (drop l.bound-index l.bounds)
    ≡ bounds_of l.initial.copies.items ++ bounds_of l.bounds

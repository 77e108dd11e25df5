use Rattle.std.proofs.Common.{take, drop}
use Rattle.bound_expr.specs.Views.{bounds_of}
use Rattle.bound_table.proofs.Splits.{ArePassed}
use Rattle.bound_table.proofs.distribution.split_at_sum.Given as goal

abbrev pub invariant-loop-position : goal.invariant-loop-position
invariant-loop-position l =
    ArePassed (bounds_of (take l.position l.parts)) (bounds_of (drop l.position l.parts)) (bounds_of l.parts)

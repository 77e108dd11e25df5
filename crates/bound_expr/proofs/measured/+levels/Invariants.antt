use Rattle.std.proofs.Common.{◌≡◌, ◌-◌, ◌^◌, min, take}
use Rattle.bound_expr.specs.Views.{bounds_of, parts_of}
use Rattle.bound_expr.specs.Measure.{maximum_depth}
use Rattle.bound_expr.proofs.measured.+levels.Given as goal

abbrev pub invariant-most_levels_in-loop-part : goal.invariant-most_levels_in-loop-part
invariant-most_levels_in-loop-part l =
    l.most ≡ min (maximum_depth (parts_of (bounds_of (take l.part-index l.parts)))) (2 ^ 32 - 1)

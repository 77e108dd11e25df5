use Rattle.std.proofs.Common.{◌≡◌, drop}
use Rattle.bound_expr.specs.Views.{bounds_of, parts_of}
use Rattle.bound_table.specs.Comparison.{all_compared}
use Rattle.bound_table.proofs.structure.+compare.Given as goal

abbrev pub invariant-compare_all-loop-part : goal.invariant-compare_all-loop-part
invariant-compare_all-loop-part l =
    all_compared (parts_of (bounds_of (drop l.part-index l.parts))) (parts_of (bounds_of l.left))
    ≡ all_compared (parts_of (bounds_of l.parts)) (parts_of (bounds_of l.others))

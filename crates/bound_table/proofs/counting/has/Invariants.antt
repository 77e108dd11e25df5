use Rattle.std.proofs.Common.{◌≡◌, drop}
use Rattle.std.specs.List.{list_any}
use Rattle.bound_expr.specs.Views.{bounds_of}
use Rattle.bound_table.specs.Counting.{is_counted}
use Rattle.bound_table.proofs.counting.has.Given as goal

abbrev pub invariant-loop-part : goal.invariant-loop-part
invariant-loop-part l =
    list_any (is_counted l.counted) (bounds_of (drop l.part-index l.parts))
    ≡ list_any (is_counted l.counted) (bounds_of l.parts)

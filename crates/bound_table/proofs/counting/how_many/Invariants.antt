use Rattle.std.proofs.Common.{◌≡◌, ◌+◌, ◌≤◌, drop}
use Rattle.std.specs.List.{count_by}
use Rattle.bound_expr.specs.Views.{bounds_of}
use Rattle.bound_table.specs.Counting.{is_counted}
use Rattle.bound_table.proofs.counting.how_many.Given as goal

abbrev pub invariant-loop-part : goal.invariant-loop-part
invariant-loop-part l = record {
  counted : l.number + count_by (is_counted l.counted) (bounds_of (drop l.part-index l.parts))
      ≡ count_by (is_counted l.counted) (bounds_of l.parts);
  few : l.number ≤ l.part-index;
}

use Rattle.std.proofs.Common.{◌≡◌, ◌≤◌, ◌+◌, drop}
use Rattle.bound_expr.specs.Views.{bounds_of}
use Rattle.bound_expr.specs.Limits.{cap}
use Rattle.bound_expr.specs.Capped.{capped}
use Rattle.bound_table.specs.Likes.{constants_total}
use Rattle.bound_table.proofs.likes.constants_total.Given as goal

abbrev pub invariant-loop-part : goal.invariant-loop-part
invariant-loop-part l = record {
  added : capped (l.total + constants_total (bounds_of (drop l.part-index l.parts)))
      ≡ capped (constants_total (bounds_of l.parts));
  small : l.total ≤ cap;
}

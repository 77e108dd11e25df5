use Rattle.std.proofs.Common.{◌≡◌, ◌≤◌, drop}
use Rattle.bound_expr.specs.Views.{bounds_of}
use Rattle.bound_expr.specs.Limits.{cap}
use Rattle.bound_expr.specs.Capped.{capped}
use Rattle.bound_table.specs.Kinds.{joined, all_joined}
use Rattle.bound_table.specs.Folding.{constants_in}
use Rattle.bound_table.proofs.folding.constants_joined.Given as goal

abbrev pub invariant-loop-part : goal.invariant-loop-part
invariant-loop-part l = record {
  made : capped (joined l.kind l.total (all_joined l.kind (constants_in (bounds_of (drop l.part-index l.parts)))))
      ≡ capped (all_joined l.kind (constants_in (bounds_of l.parts)));
  small : l.total ≤ cap;
}

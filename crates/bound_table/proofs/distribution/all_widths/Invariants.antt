use Rattle.std.proofs.Common.{◌≡◌, ◌*◌, ◌≤◌, drop}
use Rattle.bound_expr.specs.Views.{bounds_of}
use Rattle.bound_expr.specs.Limits.{cap}
use Rattle.bound_expr.specs.Capped.{capped}
use Rattle.bound_table.specs.Distribution.{all_widths}
use Rattle.bound_table.proofs.distribution.all_widths.Given as goal

abbrev pub invariant-loop-factor : goal.invariant-loop-factor
invariant-loop-factor l = record {
  made : capped (l.product * all_widths (bounds_of (drop l.factor-index l.factors)))
      ≡ capped (all_widths (bounds_of l.factors));
  small : l.product ≤ cap;
}

use Rattle.std.proofs.Common.{◌≡◌, drop}
use Rattle.bound_expr.specs.Views.{bounds_of}
use Rattle.bound_table.specs.Powers.{first_power}
use Rattle.bound_table.proofs.powers.first_power.Given as goal

abbrev pub invariant-loop-part : goal.invariant-loop-part
invariant-loop-part l =
    first_power l.base (bounds_of (drop l.part-index l.parts)) ≡ first_power l.base (bounds_of l.parts)

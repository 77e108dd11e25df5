use Rattle.std.proofs.Common.{◌≡◌, take}
use Rattle.bound_expr.specs.Views.{bounds_of}
use Rattle.bound_expr.proofs.bound.+copied.Given as goal

abbrev pub invariant-copied_parts-loop-part : goal.invariant-copied_parts-loop-part
invariant-copied_parts-loop-part l = bounds_of l.copies.items ≡ bounds_of (take l.part-index l.parts)

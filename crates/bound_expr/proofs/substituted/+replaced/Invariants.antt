use Rattle.std.proofs.Common.{◌≡◌, take}
use Rattle.bound_expr.specs.Views.{bounds_of, parts_of}
use Rattle.bound_expr.specs.Substitution.{all_substituted}
use Rattle.bound_expr.proofs.substituted.+replaced.Given as goal

abbrev pub invariant-all_replaced-loop-part : goal.invariant-all_replaced-loop-part
invariant-all_replaced-loop-part l =
    parts_of (bounds_of l.outcomes.items) ≡ all_substituted (parts_of (bounds_of (take l.part-index l.parts)))
    (bounds_of l.sizes)

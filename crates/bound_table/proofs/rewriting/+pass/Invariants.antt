use Rattle.std.proofs.Common.{◌≡◌, take}
use Rattle.bound_expr.specs.Views.{bounds_of, parts_of}
use Rattle.bound_table.specs.Rewriting.{one_pass_each}
use Rattle.bound_table.proofs.rewriting.+pass.Given as goal

abbrev pub invariant-pass_each-loop-part : goal.invariant-pass_each-loop-part
invariant-pass_each-loop-part l =
    parts_of (bounds_of l.outcomes.items) ≡ one_pass_each l.cases (parts_of (bounds_of (take l.part-index l.parts)))

use Rattle.std.proofs.Common.{◌≡◌, drop}
use Rattle.bound_expr.specs.Views.{bounds_of, parts_of}
use Rattle.bounds_tests.specs.Based.{all_bases_are_some}
use Rattle.bounds_tests.proofs.based.+bases.Given as goal

abbrev pub invariant-all_bases_some-loop-part : goal.invariant-all_bases_some-loop-part
invariant-all_bases_some-loop-part l =
    all_bases_are_some (parts_of (bounds_of (drop l.part-index l.parts))) ≡ all_bases_are_some
    (parts_of (bounds_of l.parts))

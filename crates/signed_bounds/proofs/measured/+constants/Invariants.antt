use Rattle.std.proofs.Common.{◌≡◌, drop}
use Rattle.signed_bounds.specs.Views.{signeds_of, parts_of}
use Rattle.signed_bounds.specs.Measure.{some_have_large_constant}
use Rattle.signed_bounds.proofs.measured.+constants.Given as goal

-- some part has a large constant exactly if one of the parts left has
abbrev pub invariant-some_have_large_constant-loop-part : goal.invariant-some_have_large_constant-loop-part
invariant-some_have_large_constant-loop-part l =
    some_have_large_constant (parts_of (signeds_of (drop l.part-index l.parts)))
    ≡ some_have_large_constant (parts_of (signeds_of l.parts))

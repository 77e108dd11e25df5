use Rattle.std.proofs.Common.{◌≡◌, ◌-◌, ◌^◌, min, take}
use Rattle.signed_bounds.specs.Views.{signeds_of, parts_of}
use Rattle.signed_bounds.specs.Measure.{maximum_depth}
use Rattle.signed_bounds.proofs.measured.+levels.Given as goal

abbrev pub invariant-most_levels_in-loop-part : goal.invariant-most_levels_in-loop-part
invariant-most_levels_in-loop-part l =
    l.most ≡ min (maximum_depth (parts_of (signeds_of (take l.part-index l.parts)))) (2 ^ 32 - 1)

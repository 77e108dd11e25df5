use Rattle.std.proofs.Common.{◌≡◌, drop}
use Rattle.signed_bounds.specs.Views.{signeds_of, parts_of}
use Rattle.signed_bounds.specs.Safe.{expands_to_squares}
use Rattle.signed_bounds.specs.Fits.{all_fit}
use Rattle.signed_within.proofs.fitting.+fits.Given as goal

-- whether the lists fit depends on the parts left of both
abbrev pub invariant-all_fit-loop-part : goal.invariant-all_fit-loop-part
invariant-all_fit-loop-part l =
    all_fit expands_to_squares (parts_of (signeds_of (drop l.part-index l.parts))) (parts_of (signeds_of l.left))
    ≡ all_fit expands_to_squares (parts_of (signeds_of l.parts)) (parts_of (signeds_of l.others))

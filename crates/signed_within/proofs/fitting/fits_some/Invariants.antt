use Rattle.std.proofs.Common.{◌≡◌, drop}
use Rattle.signed_bounds.specs.Views.{signed_of, signeds_of, parts_of}
use Rattle.signed_bounds.specs.Safe.{expands_to_squares}
use Rattle.signed_bounds.specs.Fits.{fits_some}
use Rattle.signed_within.proofs.fitting.fits_some.Given as goal

-- whether the bound fits some part depends on the parts left
abbrev pub invariant-loop-part : goal.invariant-loop-part
invariant-loop-part l =
    fits_some expands_to_squares (signed_of l.a) (parts_of (signeds_of (drop l.part-index l.parts)))
    ≡ fits_some expands_to_squares (signed_of l.a) (parts_of (signeds_of l.parts))

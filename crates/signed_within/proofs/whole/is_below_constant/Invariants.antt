use Rattle.std.proofs.Common.{◌≡◌, drop}
use Rattle.signed_bounds.specs.Views.{signeds_of, parts_of}
use Rattle.signed_bounds.specs.Covers as covers
use Rattle.signed_within.proofs.whole.is_below_constant.Given as goal

-- whether some part is large enough depends on the parts left
abbrev pub invariant-loop-part : goal.invariant-loop-part
invariant-loop-part l =
    covers.is_below_constant l.n l.m (parts_of (signeds_of (drop l.part-index l.parts)))
    ≡ covers.is_below_constant l.n l.m (parts_of (signeds_of l.parts))

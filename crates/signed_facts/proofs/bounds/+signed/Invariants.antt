use Rattle.std.proofs.Common.{◌≡◌, take}
use Rattle.bound_expr.specs.Views.{bounds_of, parts_of as plain_parts_of}
use Rattle.signed_bounds.specs.Inputs.{signed_of_parts}
use Rattle.signed_bounds.specs.Views.{signeds_of, parts_of}
use Rattle.signed_facts.proofs.bounds.+signed.Given as goal

-- the parts passed are converted
abbrev pub invariant-signed_parts-loop-part : goal.invariant-signed_parts-loop-part
invariant-signed_parts-loop-part l =
    parts_of (signeds_of l.converted.items) ≡ signed_of_parts (plain_parts_of (bounds_of (take l.part-index l.parts)))

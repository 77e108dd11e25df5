use Rattle.std.proofs.Common.{◌≡◌, take}
use Rattle.signed_bounds.specs.Views.{signeds_of}
use Rattle.potential_types.proofs.copies.+copied.Given as goal

-- the parts passed are copied
abbrev pub invariant-copied_parts-loop-part : goal.invariant-copied_parts-loop-part
invariant-copied_parts-loop-part l = signeds_of l.copies.items ≡ signeds_of (take l.part-index l.parts)

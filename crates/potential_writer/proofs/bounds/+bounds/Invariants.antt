use Rattle.std.proofs.Common.{◌≡◌, ◌++◌, drop}
use Rattle.signed_bounds.specs.Views.{parts_of, signeds_of}
use Rattle.potential_writer.specs.Bounds.{more_parts_text}
use Rattle.potential_writer.proofs.bounds.+bounds.Given as goal

-- the text so far and that of the remaining parts are the whole text
abbrev pub invariant-push_more_parts-loop-part : goal.invariant-push_more_parts-loop-part
invariant-push_more_parts-loop-part l =
    l.text.items ++ more_parts_text (parts_of (signeds_of (drop l.part-index l.parts)))
    ≡ l.initial.text.items ++ more_parts_text (parts_of (signeds_of l.parts))

abbrev pub invariant-push_parts-loop-part : goal.invariant-push_parts-loop-part
invariant-push_parts-loop-part l =
    l.text.items ++ more_parts_text (parts_of (signeds_of (drop l.part-index l.others)))
    ≡ l.initial.text.items ++ more_parts_text (parts_of (signeds_of l.others))

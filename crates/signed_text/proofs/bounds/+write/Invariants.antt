use Rattle.std.proofs.Common.{◌≡◌, ◌++◌, map, drop}
use Rattle.text_core.specs.Names.{name_of}
use Rattle.signed_bounds.specs.Bounds.{ProductOf}
use Rattle.signed_bounds.specs.Views.{signeds_of, parts_of}
use Rattle.signed_text.specs.Texts.{signed_text, separated_text, separated_rest, factors_text}
use Rattle.signed_text.proofs.bounds.+write.Given as goal

-- what is written, followed by the text of the parts left, is the whole
abbrev pub invariant-write_each_after_separator-loop-part : goal.invariant-write_each_after_separator-loop-part
invariant-write_each_after_separator-loop-part l =
    l.text.items ++ separated_rest (map name_of l.names) l.separator (parts_of (signeds_of (drop l.part-index l.parts)))
    ≡ l.initial.text.items ++ separated_rest (map name_of l.names) l.separator (parts_of (signeds_of l.parts))

-- what is written, followed by the text of the parts left after the first one, is the whole
abbrev pub invariant-write_separated-loop-part : goal.invariant-write_separated-loop-part
invariant-write_separated-loop-part l =
    l.text.items ++ separated_rest (map name_of l.names) l.separator (parts_of (signeds_of (drop l.part-index l.others)))
    ≡ l.fn.text.items
    ++ separated_text (map name_of l.names) l.nothing l.separator (parts_of (signeds_of l.parts))

-- what is written, followed by the text of the factors left after the first one, is the whole
abbrev pub invariant-write_product-loop-factor : goal.invariant-write_product-loop-factor
invariant-write_product-loop-factor l =
    l.text.items ++ factors_text (map name_of l.names) (parts_of (signeds_of (drop l.factor-index l.others)))
    ≡ l.fn.text.items ++ signed_text (map name_of l.names) (ProductOf (parts_of (signeds_of l.factors)))

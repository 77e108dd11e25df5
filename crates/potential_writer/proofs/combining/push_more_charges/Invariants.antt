use Rattle.std.proofs.Common.{◌≡◌, ◌++◌, map, drop, codes}
use Rattle.section_writer.specs.Lists.{each_behind}
use Rattle.potential_types.specs.Views.{charge_of}
use Rattle.potential_writer.specs.Lemmas.{charge_text}
use Rattle.potential_writer.proofs.combining.push_more_charges.Given as goal

-- the text so far and that of the remaining charges are the whole text
abbrev pub invariant-loop-charge : goal.invariant-loop-charge
invariant-loop-charge l =
    l.text.items ++ each_behind (codes "; ") (map charge_text (map charge_of (drop l.charge-index l.charges)))
    ≡ l.initial.text.items ++ each_behind (codes "; ") (map charge_text (map charge_of l.charges))

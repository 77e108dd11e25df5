use Rattle.std.proofs.Common.{◌≡◌, ◌++◌, map, drop, codes, decimal}
use Rattle.section_writer.specs.Lists.{each_behind}
use Rattle.potential_writer.proofs.numbers.push_more_numbers.Given as goal

-- the text so far and that of the remaining numbers are the whole text
abbrev pub invariant-loop-number : goal.invariant-loop-number
invariant-loop-number l =
    l.text.items ++ each_behind (codes " ") (map decimal (drop l.number-index l.numbers))
    ≡ l.initial.text.items ++ each_behind (codes " ") (map decimal l.numbers)

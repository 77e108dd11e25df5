use Rattle.std.proofs.Common.{◌≡◌, ◌++◌, drop}
use Rattle.section_writer.specs.Lists.{each_before}
use Rattle.section_writer.proofs.numbers.push_each_before.Given as goal

-- the text so far and that of the remaining numbers are the whole text
abbrev pub invariant-loop-number : goal.invariant-loop-number
invariant-loop-number l =
    l.text.items ++ each_before (drop l.number-index l.numbers)
    ≡ l.initial.text.items ++ each_before l.numbers

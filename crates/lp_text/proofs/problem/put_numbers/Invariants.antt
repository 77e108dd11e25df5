use Rattle.std.proofs.Common.{◌≡◌, ◌+◌, take}
use Rattle.lp_builder.specs.Entries.{Writes}
use Rattle.lp_text.proofs.problem.put_numbers.Given as goal

-- the numbers so far are written
abbrev pub invariant-loop-number : goal.invariant-loop-number
invariant-loop-number l =
    Writes l.initial.writer l.writer (take l.number-index l.numbers)
    × (l.writer.col ≡ l.initial.writer.col + l.number-index)

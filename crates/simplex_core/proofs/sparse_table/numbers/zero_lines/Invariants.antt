use Rattle.std.proofs.Common.{◌≡◌, length}
use Rattle.simplex_core.specs.Lines.{AreAllEmpty}
use Rattle.simplex_core.proofs.sparse_table.numbers.zero_lines.Given as goal

-- the lines built so far have no entries
abbrev pub invariant-loop-made : goal.invariant-loop-made
invariant-loop-made l = record { length_is : length l.lines.items ≡ l.made; empty : AreAllEmpty l.lines.items }

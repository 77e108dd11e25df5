use Rattle.std.proofs.Common.{◌≡◌, map, take}
use Rattle.lp_builder.specs.Entries.{entries_of}
use Rattle.lp_text.proofs.problem.entries_of.Given as goal

-- the entries of the rows so far are written, and the next number is the first of its row
abbrev pub invariant-loop-row : goal.invariant-loop-row
invariant-loop-row l =
    (l.writer.entries.items ≡ entries_of 0 (map (λ r. r.numbers.items) (take l.row-index l.rows)))
    × (l.writer.row ≡ l.row-index)
    × (l.writer.col ≡ 0)

use Rattle.std.proofs.Common.{◌≡◌, ℕ, Bool, filter}
use Rattle.std.specs.List.{range_with_len}
use Rattle.rank_search.specs.Marks.{AreMarks}
use Rattle.rank_search.proofs.symbols.marked.Given as goal

-- the list has the marked numbers so far
abbrev pub invariant-loop-mark : goal.invariant-loop-mark
invariant-loop-mark l = (test : ℕ → Bool) → AreMarks test l.marks
    → l.found.items ≡ filter test (range_with_len 0 l.mark-index)

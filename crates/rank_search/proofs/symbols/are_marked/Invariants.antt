use Rattle.std.proofs.Common.{◌≡◌, ℕ, Bool, map}
use Rattle.std.specs.List.{range_with_len}
use Rattle.rank_search.specs.Marks.{AreMarks}
use Rattle.rank_search.proofs.symbols.are_marked.Given as goal

-- the flags are those of the marks so far
abbrev pub invariant-loop-mark : goal.invariant-loop-mark
invariant-loop-mark l = (test : ℕ → Bool) → AreMarks test l.marks
    → l.flags.items ≡ map test (range_with_len 0 l.mark-index)

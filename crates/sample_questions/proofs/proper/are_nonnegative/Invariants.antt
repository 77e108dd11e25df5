use Rattle.std.proofs.Common.{ℕ, ◌<◌}
use Rattle.std.specs.Prelude.{pos, ◌≤ℤ◌, slice_index_or}
use Rattle.sample_questions.proofs.proper.are_nonnegative.Given as goal

-- the numbers before this one are at least 0
abbrev pub invariant-loop-position : goal.invariant-loop-position
invariant-loop-position l = (k : ℕ) → k < l.position → pos 0 ≤ℤ slice_index_or l.numbers k (pos 0)

use Rattle.std.proofs.Common.{ℕ, ◌<◌, ◌^◌}
use Rattle.std.specs.Prelude.{pos, unsigned_abs, slice_index_or}
use Rattle.simplex_core.proofs.checking.are_below.Given as goal

-- the numbers before this one are below the limit
abbrev pub invariant-loop-position : goal.invariant-loop-position
invariant-loop-position l = (k : ℕ) → k < l.position → unsigned_abs (slice_index_or l.numbers k (pos 0)) < 2 ^ 31

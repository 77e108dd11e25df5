use Rattle.std.proofs.Common.{◌≡◌, ℕ, ◌<◌, ◌≤◌, max, length, get_or, pos, nat_abs}
use Rattle.run_replay.proofs.tally.raise.Given as goal

-- the numbers so far are raised, and the others are unchanged
abbrev pub invariant-loop-i : goal.invariant-loop-i
invariant-loop-i l = record {
  length : length l.row.items ≡ length l.values;
  raised : (k : ℕ) → k < l.i → get_or l.row.items k 0 ≡ max (get_or l.initial.row.items k 0) (nat_abs (get_or l.values k (pos 0)));
  others : (k : ℕ) → l.i ≤ k → get_or l.row.items k 0 ≡ get_or l.initial.row.items k 0;
}

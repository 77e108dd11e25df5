use Rattle.std.proofs.Common.{◌≡◌, ℕ, ◌<◌, false, replicate}
use Rattle.gap_checks.specs.GapBalances.{flags_at}
use Rattle.gap_checks.proofs.shut_places.clear.Given as goal

-- the rows so far are clear
abbrev pub invariant-loop-index : goal.invariant-loop-index
invariant-loop-index l = (k : ℕ) → k < l.index → flags_at l.rows k ≡ replicate 33 false

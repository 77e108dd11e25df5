use Rattle.std.proofs.Common.{ℕ, ◌<◌, get_or}
use Rattle.poly_terms.proofs.factors.position_for.Given as goal

-- all variables before the position are smaller
abbrev pub invariant-loop-i : goal.invariant-loop-i
invariant-loop-i l = (k : ℕ) → k < l.i → get_or l.vars k 0 < l.v

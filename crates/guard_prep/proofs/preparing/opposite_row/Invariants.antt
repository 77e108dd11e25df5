use Rattle.std.proofs.Common.{◌≡◌, map, take}
use Rattle.std.specs.Prelude.{neg_ℤ}
use Rattle.guard_prep.proofs.preparing.opposite_row.Given as goal

-- the coefficients are the negated ones so far
abbrev pub invariant-loop-a : goal.invariant-loop-a
invariant-loop-a l = l.coefs.items ≡ map neg_ℤ (take l.a-index l.row.coefs.items)

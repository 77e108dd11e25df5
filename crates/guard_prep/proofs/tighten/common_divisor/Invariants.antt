use Rattle.std.proofs.Common.{take}
use Rattle.guard_prep.proofs.DivisorLaws.{IsDivisorOf}
use Rattle.guard_prep.proofs.tighten.common_divisor.Given as goal

-- the divisor is that of the coefficients so far
abbrev pub invariant-loop-a : goal.invariant-loop-a
invariant-loop-a l = IsDivisorOf l.divisor (take l.a-index l.coefs)

use Rattle.std.proofs.Common.{◌≡◌, ◌++◌, take, drop, map}
use Rattle.std.specs.Prelude.{int_div}
use Rattle.guard_prep.proofs.tighten.divided.Given as goal

-- the coefficients before i are divided
abbrev pub invariant-loop-i : goal.invariant-loop-i
invariant-loop-i l = l.coefs.items ≡ map (λ a. int_div a l.fn.divisor) (take l.i l.fn.row.coefs.items) ++ drop l.i l.fn.row.coefs.items

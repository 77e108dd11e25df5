use Rattle.std.proofs.Common.{◌≡◌, take}
use Rattle.lasso_check.proofs.closing.first_difference.Given as goal

-- the values before index i agree
abbrev pub invariant-loop-i : goal.invariant-loop-i
invariant-loop-i l = take l.i l.before.values.items ≡ take l.i l.behind.values.items

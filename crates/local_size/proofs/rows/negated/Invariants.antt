use Rattle.std.proofs.Common.{◌≡◌, map, take}
use Rattle.std.specs.Prelude.{negsuc, ◌*ℤ◌}
use Rattle.local_size.proofs.rows.negated.Given as goal

-- the coefficients are the negated ones so far
abbrev pub invariant-loop-coef : goal.invariant-loop-coef
invariant-loop-coef l = l.coefs.items ≡ map (λ a. negsuc 0 *ℤ a) (take l.coef-index l.row.coefs.items)

use Rattle.std.proofs.Common.{◌≡◌, map, take}
use Rattle.std.specs.Prelude.{pos, ◌*ℤ◌}
use Rattle.location_facts.proofs.faults.times.Given as goal

-- the coefficients are those so far, times the number
abbrev pub invariant-loop-coef : goal.invariant-loop-coef
invariant-loop-coef l = l.coefs.items ≡ map (λ a. pos l.den *ℤ a) (take l.coef-index l.goal.coefs.items)

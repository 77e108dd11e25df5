use Rattle.std.proofs.Common.{◌≡◌, replicate, None}
use Rattle.bound_derivations.proofs.starting.nothing.Given as goal

abbrev pub invariant-loop : goal.invariant-loop
invariant-loop l = l.sizes.items ≡ replicate l.counter None

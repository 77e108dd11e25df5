use Rattle.std.proofs.Common.{◌≡◌, replicate, None}
use Rattle.time_bounds.proofs.parts.nothing_found.Given as goal

abbrev pub invariant-loop : goal.invariant-loop
invariant-loop l = l.found.items ≡ replicate l.counter None

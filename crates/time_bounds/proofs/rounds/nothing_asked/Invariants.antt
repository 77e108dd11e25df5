use Rattle.std.proofs.Common.{◌≡◌, replicate, None}
use Rattle.time_bounds.proofs.rounds.nothing_asked.Given as goal

abbrev pub invariant-loop : goal.invariant-loop
invariant-loop l = l.asked.items ≡ replicate l.counter None

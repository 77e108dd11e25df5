use Rattle.std.proofs.Common.{take}
use Rattle.cert_context.specs.Lookups.{HasTimes, facts_at}
use Rattle.cert_context.proofs.joining.times_of.Given as goal

-- the map has the first times of the facts before this one
abbrev pub invariant-loop-i : goal.invariant-loop-i
invariant-loop-i l = HasTimes (facts_at (take l.i l.facts)) l.times

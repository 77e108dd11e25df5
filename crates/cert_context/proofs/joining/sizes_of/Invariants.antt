use Rattle.std.proofs.Common.{take}
use Rattle.cert_context.specs.Lookups.{HasSizes, facts_at}
use Rattle.cert_context.proofs.joining.sizes_of.Given as goal

-- the map has the first sizes of the facts before this one
abbrev pub invariant-loop-i : goal.invariant-loop-i
invariant-loop-i l = HasSizes (facts_at (take l.i l.facts)) l.sizes

use Rattle.std.proofs.Common.{take}
use Rattle.location_facts.specs.Tables.{AreCounts}
use Rattle.location_facts.proofs.tables.counts_by_symbol.Given as goal

-- the facts so far are counted
abbrev pub invariant-loop-i : goal.invariant-loop-i
invariant-loop-i l = AreCounts l.symbols (take l.i l.facts) l.counts.items

use Rattle.std.proofs.Common.{◌≡◌, drop}
use Rattle.size_bounds.specs.Tables.{table_of}
use Rattle.time_bounds.specs.Shutting.{lacks_any}
use Rattle.time_bounds.proofs.sets.lacks_size.Given as goal

-- the result is that of the remaining rules
abbrev pub invariant-loop-rule : goal.invariant-loop-rule
invariant-loop-rule l = lacks_any (table_of l.table) (drop l.rule-index l.rules) l.place ≡ lacks_any (table_of l.table) l.rules l.place

use Rattle.std.proofs.Common.{take, length}
use Rattle.simplex_core.specs.ColumnBuilding.{AreColumns, entries_at}
use Rattle.simplex_core.proofs.column_table.first.put_entries.Given as goal

-- the entries before this one are put
abbrev pub invariant-loop-position : goal.invariant-loop-position
invariant-loop-position l = AreColumns l.columns.items (length l.fn.columns.items) (entries_at (take l.position l.entries) l.right)

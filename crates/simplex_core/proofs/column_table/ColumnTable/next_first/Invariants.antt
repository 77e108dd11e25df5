use Rattle.simplex_core.specs.ColumnTables.{IsFirst, AreNotNegative}
use Rattle.simplex_core.proofs.column_table.ColumnTable.next_first.Given as goal

-- no column before this one has a number below 0 in the first cost row
abbrev pub invariant-loop-position : goal.invariant-loop-position
invariant-loop-position l = IsFirst l.self → AreNotNegative l.self.columns.items l.self.rows l.position

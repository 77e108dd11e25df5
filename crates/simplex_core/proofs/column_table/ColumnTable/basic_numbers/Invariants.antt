use Rattle.simplex_core.specs.ColumnResults.{HoldsBasicOf}
use Rattle.simplex_core.proofs.column_table.ColumnTable.basic_numbers.Given as goal

-- the numbers of the rows before this one are written
abbrev pub invariant-loop-row : goal.invariant-loop-row
invariant-loop-row l = HoldsBasicOf l.self l.row l.at.items

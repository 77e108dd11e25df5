use Rattle.simplex_core.specs.ColumnResults.{HoldsDualOf}
use Rattle.simplex_core.proofs.column_table.ColumnTable.dual_numbers.Given as goal

-- the dual's numbers of the rows before this one are in the list
abbrev pub invariant-loop-row : goal.invariant-loop-row
invariant-loop-row l = HoldsDualOf l.self l.right l.row l.dual.items

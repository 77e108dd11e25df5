use Rattle.simplex_core.specs.ColumnBuilding.{HasSides}
use Rattle.simplex_core.proofs.column_table.first.right_column.Given as goal

-- the right sides before this one are put
abbrev pub invariant-loop-row : goal.invariant-loop-row
invariant-loop-row l = HasSides l.column l.right l.row

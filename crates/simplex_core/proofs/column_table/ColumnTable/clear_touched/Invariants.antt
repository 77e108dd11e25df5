use Rattle.simplex_core.specs.ColumnTables.{ClearsTouched}
use Rattle.simplex_core.proofs.column_table.ColumnTable.clear_touched.Given as goal

-- the columns before this one are cleared
abbrev pub invariant-loop-place : goal.invariant-loop-place
invariant-loop-place l = ClearsTouched l.fn.self l.self l.row l.pivot l.shifted.items.items l.touched l.place

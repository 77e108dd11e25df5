use Rattle.simplex_core.specs.ColumnTables.{ListsTouched}
use Rattle.simplex_core.proofs.column_table.ColumnTable.list_touched.Given as goal

-- the columns are put into the lists of the rows of the cells before this one
abbrev pub invariant-loop-cell : goal.invariant-loop-cell
invariant-loop-cell l = ListsTouched l.fn.self l.self l.row l.cells l.touched l.cell-index

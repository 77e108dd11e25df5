use Rattle.simplex_core.specs.ColumnListing.{PutsCells}
use Rattle.simplex_core.proofs.column_table.lists.put_cells.Given as goal

-- the column is in the lists of the rows of the cells before this one
abbrev pub invariant-loop-cell : goal.invariant-loop-cell
invariant-loop-cell l = PutsCells l.fn.lists.items l.lists.items l.cells l.position l.cell-index

use Rattle.std.specs.Prelude.{pos, ◌<ℤ◌, IfSome}
use Rattle.linear_forms.specs.LinearProgram.{LinearProgram}
use Rattle.simplex_core.specs.Tableau.{Tableau}
use Rattle.simplex_core.specs.ColumnTables.{ShowsColumns, IsCellOf, IsBestCell}
use Rattle.simplex_core.proofs.column_table.ColumnTable.leaving_cell.Given as goal

-- the best cell is one of the column, and the best of the cells before this one
abbrev pub invariant-loop-cell : goal.invariant-loop-cell
invariant-loop-cell l = record {
  own : IfSome l.best (λ d. IsCellOf l.self l.column d × (pos 0 <ℤ d.number));
  best : (p : LinearProgram) (t : Tableau) → ShowsColumns p l.self t → IsBestCell p t l.column l.cells l.cell-index l.best;
}

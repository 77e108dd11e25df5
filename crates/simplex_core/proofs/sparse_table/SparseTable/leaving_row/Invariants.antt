use Rattle.std.proofs.Common.{◌<◌}
use Rattle.std.specs.Prelude.{IfSome}
use Rattle.simplex_core.specs.Cells.{Shows}
use Rattle.linear_forms.specs.LinearProgram.{LinearProgram}
use Rattle.simplex_core.specs.Tableau.{Tableau}
use Rattle.simplex_core.specs.Cells.{IsBestOf}
use Rattle.simplex_core.proofs.sparse_table.SparseTable.leaving_row.Given as goal

-- the best row so far is the best of the rows before this one
abbrev pub invariant-loop-row : goal.invariant-loop-row
invariant-loop-row l = record {
  within : IfSome l.best (λ r. r < l.self.rows);
  best : (p : LinearProgram) (t : Tableau) → Shows p l.self t → IsBestOf p t l.column l.row l.best;
}

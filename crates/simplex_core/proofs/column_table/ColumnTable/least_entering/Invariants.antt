use Rattle.std.proofs.Common.{◌≡◌, None}
use Rattle.simplex_core.specs.ColumnTables.{ShowsColumns}
use Rattle.linear_forms.specs.LinearProgram.{LinearProgram}
use Rattle.simplex_core.specs.Tableau.{Tableau}
use Rattle.simplex_core.specs.Search.{least}
use Rattle.simplex_core.specs.Bland.{may_enter}
use Rattle.simplex_core.proofs.column_table.ColumnTable.least_entering.Given as goal

-- no column before this one may enter
abbrev pub invariant-loop-column : goal.invariant-loop-column
invariant-loop-column l = (p : LinearProgram) (t : Tableau) → ShowsColumns p l.self t → least l.column (may_enter p t l.cost) ≡ None

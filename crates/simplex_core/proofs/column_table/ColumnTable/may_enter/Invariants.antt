use Rattle.std.proofs.Common.{◌≡◌, true}
use Rattle.int_laws.specs.NormalForm.{is_zero}
use Rattle.simplex_core.specs.ColumnTables.{ShowsColumns}
use Rattle.linear_forms.specs.LinearProgram.{LinearProgram}
use Rattle.simplex_core.specs.Tableau.{Tableau, cost_row}
use Rattle.simplex_core.specs.Search.{every}
use Rattle.simplex_core.proofs.column_table.ColumnTable.may_enter.Given as goal

-- the column is 0 in the cost rows before this one
abbrev pub invariant-loop-before : goal.invariant-loop-before
invariant-loop-before l = (p : LinearProgram) (t : Tableau) → ShowsColumns p l.self t → every l.before (λ k. is_zero (t.entry (cost_row p k) l.column)) ≡ true

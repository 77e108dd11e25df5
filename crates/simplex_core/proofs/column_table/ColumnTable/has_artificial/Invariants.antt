use Rattle.std.proofs.Common.{◌≡◌, false}
use Rattle.std.specs.Prelude.{pos, int_lt, nat_le, ◌&&◌}
use Rattle.simplex_core.specs.ColumnTables.{ShowsColumns}
use Rattle.linear_forms.specs.LinearProgram.{LinearProgram}
use Rattle.simplex_core.specs.Tableau.{Tableau, unknowns}
use Rattle.simplex_core.specs.Search.{some}
use Rattle.simplex_core.proofs.column_table.ColumnTable.has_artificial.Given as goal

-- no artificial unknown before this row is above 0
abbrev pub invariant-loop-row : goal.invariant-loop-row
invariant-loop-row l = (p : LinearProgram) (t : Tableau) → ShowsColumns p l.self t
    → some l.row (λ i. nat_le p.columns (t.basis i) && int_lt (pos 0) (t.entry i (unknowns p))) ≡ false

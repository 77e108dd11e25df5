use Rattle.std.proofs.Common.{◌≡◌, ℕ, ◌<◌, Some, false}
use Rattle.std.specs.Prelude.{nat_lt, ◌&&◌, slice_get}
use Rattle.frac128.specs.declared.frac.Frac.{Frac}
use Rattle.linear_forms.specs.LinearProgram.{LinearProgram}
use Rattle.simplex_core.specs.Tableau.{Tableau}
use Rattle.simplex_core.specs.Bland.{may_enter}
use Rattle.simplex_core.specs.Cells.{Shows}
use Rattle.simplex_core.proofs.sparse_table.SparseTable.least_entering.Given as goal

-- no listed entry before this one enters
abbrev pub invariant-loop-index : goal.invariant-loop-index
invariant-loop-index l = record {
  each : (p : LinearProgram) (t : Tableau) → Shows p l.self t → (k : ℕ) (x : ℕ × Frac) → k < l.index → slice_get l.line k ≡ Some x
      → (nat_lt x.0 p.columns && may_enter p t l.cost x.0) ≡ false;
}

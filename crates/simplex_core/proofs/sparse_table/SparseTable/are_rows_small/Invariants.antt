use Rattle.std.proofs.Common.{ℕ, ◌<◌}
use Rattle.simplex_core.specs.Cells.{IsRowBelow}
use Rattle.simplex_core.proofs.sparse_table.SparseTable.are_rows_small.Given as goal

-- the rows before this one are small
abbrev pub invariant-loop-row : goal.invariant-loop-row
invariant-loop-row l = (i : ℕ) → i < l.row → IsRowBelow 31 l.self i

use Rattle.simplex_core.specs.Cells.{HoldsDual}
use Rattle.simplex_core.proofs.sparse_table.SparseTable.dual_numbers.Given as goal

-- the dual's numbers of the rows before this one are in the list
abbrev pub invariant-loop-row : goal.invariant-loop-row
invariant-loop-row l = HoldsDual l.self l.right l.row l.dual.items

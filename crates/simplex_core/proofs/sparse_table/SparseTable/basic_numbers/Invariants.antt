use Rattle.simplex_core.specs.Cells.{HoldsBasic}
use Rattle.simplex_core.proofs.sparse_table.SparseTable.basic_numbers.Given as goal

-- the numbers of the rows before this one are written
abbrev pub invariant-loop-row : goal.invariant-loop-row
invariant-loop-row l = HoldsBasic l.self l.row l.at.items

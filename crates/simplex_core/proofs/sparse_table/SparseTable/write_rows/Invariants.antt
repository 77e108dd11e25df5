use Rattle.std.proofs.Common.{ℕ}
use Rattle.std.specs.Prelude.{ℤ}
use Rattle.simplex_core.specs.Building.{HoldsWhole, KeepsShape, AreZeroFrom, with_equations}
use Rattle.simplex_core.proofs.sparse_table.SparseTable.write_rows.Given as goal

-- the rows before this one are written, and the others are unchanged
abbrev pub invariant-loop-row : goal.invariant-loop-row
invariant-loop-row l = record {
  shape : KeepsShape l.fn.self l.self;
  none : AreZeroFrom l.self l.row;
  whole : (g : ℕ → ℕ → ℤ) → HoldsWhole l.fn.self g → HoldsWhole l.self (with_equations l.fn.self.rows l.fn.self.columns l.right g l.row);
}

use Rattle.std.proofs.Common.{ℕ}
use Rattle.std.specs.Prelude.{ℤ}
use Rattle.simplex_core.specs.Building.{HoldsWhole, KeepsShape, AreCostsZeroFrom, AreSumsOf, with_costs}
use Rattle.simplex_core.proofs.sparse_table.SparseTable.write_costs.Given as goal

-- the columns before this one are written, and the others are still 0
abbrev pub invariant-loop-column : goal.invariant-loop-column
invariant-loop-column l = record {
  shape : KeepsShape l.fn.self l.self;
  none : AreCostsZeroFrom l.self l.column;
  whole : (g : ℕ → ℕ → ℤ) → HoldsWhole l.fn.self g → AreSumsOf g l.fn.self.rows l.fn.self.columns l.sums
      → HoldsWhole l.self (with_costs l.fn.self.rows g l.first l.second l.column);
}

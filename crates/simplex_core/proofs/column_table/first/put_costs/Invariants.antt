use Rattle.std.proofs.Common.{◌≡◌, ℕ, ◌≤◌, length}
use Rattle.std.specs.Prelude.{ℤ, pos}
use Rattle.simplex_core.specs.ColumnBuilding.{AreColumns, with_cost_columns}
use Rattle.simplex_core.proofs.column_table.first.put_costs.Given as goal

-- the costs of the columns before this one are put
abbrev pub invariant-loop-position : goal.invariant-loop-position
invariant-loop-position l = record {
  lengths : length l.columns.items ≡ length l.fn.columns.items;
  costed : (g : ℕ → ℕ → ℤ) → AreColumns l.fn.columns.items (length l.first) g → ((i j : ℕ) → l.rows ≤ i → g i j ≡ pos 0)
      → AreColumns l.columns.items (length l.first) (with_cost_columns l.rows g l.first l.second l.position);
}

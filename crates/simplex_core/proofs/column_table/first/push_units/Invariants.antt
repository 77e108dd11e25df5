use Rattle.std.proofs.Common.{ℕ, ◌+◌}
use Rattle.std.specs.Prelude.{ℤ}
use Rattle.simplex_core.specs.ColumnBuilding.{AreColumns, with_units}
use Rattle.simplex_core.proofs.column_table.first.push_units.Given as goal

-- the artificial unknowns' columns of the rows before this one are appended
abbrev pub invariant-loop-row : goal.invariant-loop-row
invariant-loop-row l = (n : ℕ) (g : ℕ → ℕ → ℤ) → AreColumns l.fn.columns.items n g → AreColumns l.columns.items (n + l.row) (with_units n g)

use Rattle.std.proofs.Common.{◌≡◌, drop}
use Rattle.std.specs.Prelude.{◌+ℤ◌}
use Rattle.sparse_columns.specs.Numbers.{total_of}
use Rattle.sparse_columns.proofs.totals.sum_of.Given as goal

-- the sum so far and that of the remaining cells are the sum of all
abbrev pub invariant-loop-cell : goal.invariant-loop-cell
invariant-loop-cell l = l.sum +ℤ total_of (drop l.cell-index l.cells) ≡ total_of l.cells

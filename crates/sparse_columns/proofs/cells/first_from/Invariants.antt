use Rattle.std.proofs.Common.{◌-◌, ◌≤◌, length}
use Rattle.sparse_columns.specs.Order.{IsBefore, IsFrom}
use Rattle.sparse_columns.proofs.cells.first_from.Given as goal

-- the cells before `low` are in rows before the row, and those from `high` on are not
abbrev pub invariant-loop-low : goal.invariant-loop-low
invariant-loop-low l = record {
  order : l.low ≤ l.high;
  within : l.high ≤ length l.cells;
  before : IsBefore l.cells l.low l.row;
  from : IsFrom l.cells l.high l.row;
}

abbrev pub decreases-loop-low : goal.decreases-loop-low
decreases-loop-low l = l.high - l.low

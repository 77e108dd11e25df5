use Rattle.std.proofs.Common.{◌≤◌, length}
use Rattle.sparse_columns.specs.Order.{IsFrom}
use Rattle.sparse_columns.proofs.cells.first_from_behind.Given as goal

-- the cells from the position on are in rows from the row on
abbrev pub invariant-loop-found : goal.invariant-loop-found
invariant-loop-found l = record {
  within : l.found ≤ length l.cells;
  from : IsFrom l.cells l.found l.row;
}

abbrev pub decreases-loop-found : goal.decreases-loop-found
decreases-loop-found l = l.found

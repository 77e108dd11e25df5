use Rattle.std.proofs.Common.{◌≡◌, ◌≢◌, ℕ, ◌<◌, ◌≤◌}
use Rattle.simplex_core.specs.Cells.{cell, width, KeepsRow, IsRowClearedBy, AreSmallBut, HasLargeBut}
use Rattle.std.specs.Prelude.{MatchBool}
use Rattle.simplex_core.proofs.sparse_table.SparseTable.clear_others.Given as goal

-- the rows before this one are cleared and tested, and the others are unchanged
abbrev pub invariant-loop-row : goal.invariant-loop-row
invariant-loop-row l = record {
  kept : KeepsRow l.fn.self l.self l.pivot;
  rest : (i j : ℕ) → l.row ≤ i → j < width l.fn.self → cell l.self i j ≡ cell l.fn.self i j;
  small : MatchBool l.are_small (AreSmallBut l.self l.pivot l.row) (HasLargeBut l.self l.pivot l.row);
  done : (i : ℕ) → i ≢ l.pivot → i < l.row → IsRowClearedBy l.fn.self l.self i l.pivot l.column;
}

use Rattle.std.proofs.Common.{◌≡◌, ℕ, ◌<◌, ◌+◌, length}
use Rattle.std.specs.Prelude.{slice_index}
use Rattle.simplex_core.proofs.sparse_table.numbers.first_basis.Given as goal

-- the basis has the columns of the rows before this one
abbrev pub invariant-loop-row : goal.invariant-loop-row
invariant-loop-row l = record {
  length_is : length l.basis.items ≡ l.row;
  each : (i : ℕ) → i < l.row → slice_index l.basis.items i ≡ l.columns + i;
}

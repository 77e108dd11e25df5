use Rattle.std.proofs.Common.{◌≡◌, ℕ, ◌*◌, ◌≤◌, length, take, ◌^◌}
use Rattle.std.specs.Prelude.{pos, unsigned_abs, slice_index_or}
use Rattle.simplex_core.specs.Building.{AreSumsOf, signed_entries}
use Rattle.simplex_core.proofs.sparse_table.numbers.column_sums.Given as goal

-- the sums are those of the entries before this one
abbrev pub invariant-loop-position : goal.invariant-loop-position
invariant-loop-position l = record {
  length_is : length l.sums.items ≡ l.columns;
  bounded : (j : ℕ) → unsigned_abs (slice_index_or l.sums.items j (pos 0)) ≤ l.position * 2 ^ 31;
  sums : AreSumsOf (signed_entries (take l.position l.entries) l.right) (length l.right) l.columns l.sums.items;
}

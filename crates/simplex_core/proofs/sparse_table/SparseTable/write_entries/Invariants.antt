use Rattle.std.proofs.Common.{take}
use Rattle.simplex_core.specs.Building.{HoldsWhole, KeepsShape, signed_entries}
use Rattle.simplex_core.proofs.sparse_table.SparseTable.write_entries.Given as goal

-- the entries before this one are written
abbrev pub invariant-loop-position : goal.invariant-loop-position
invariant-loop-position l = record {
  shape : KeepsShape l.fn.self l.self;
  whole : HoldsWhole l.self (signed_entries (take l.position l.entries) l.right);
}

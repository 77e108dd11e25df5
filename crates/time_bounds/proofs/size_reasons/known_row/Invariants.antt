use Rattle.std.proofs.Common.{◌≡◌, length, take, map}
use Rattle.time_bounds.specs.SizeSaid.{seen_row, said_stored, CarryRow}
use Rattle.time_bounds.proofs.size_reasons.known_row.Given as goal

abbrev pub invariant-loop-stored : goal.invariant-loop-stored
invariant-loop-stored l = record {
  sizes : seen_row l.entries.items ≡ map said_stored (take l.stored-index l.row);
  long : length l.entries.items ≡ l.stored-index;
  carried : CarryRow l.row l.entries.items;
}

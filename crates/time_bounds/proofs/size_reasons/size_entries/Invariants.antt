use Rattle.std.proofs.Common.{◌≡◌, take, map}
use Rattle.time_bounds.specs.SizeSaid.{seen_rows, said_table, put_whys, CarryPlaces}
use Rattle.time_bounds.proofs.size_reasons.size_entries.Given as goal

abbrev pub invariant-loop-position : goal.invariant-loop-position
invariant-loop-position l = record {
  sizes : seen_rows (map (λ row. row.items) l.entries.items)
      ≡ put_whys (said_table l.table) (take l.position l.candidates) (take l.position l.attempts);
  carried : CarryPlaces l.table (map (λ row. row.items) l.entries.items);
}

use Rattle.std.proofs.Common.{◌≡◌, length, take, map}
use Rattle.time_bounds.specs.SizeSaid.{seen_rows, said_stored, CarryPlaces}
use Rattle.time_bounds.proofs.size_reasons.known_sizes.Given as goal

abbrev pub invariant-loop-row : goal.invariant-loop-row
invariant-loop-row l = record {
  sizes : seen_rows (map (λ row. row.items) l.rows.items)
      ≡ map (λ row. map said_stored row) (map (λ row. row.items) (take l.row-index l.table.sizes.items));
  long : length l.rows.items ≡ l.row-index;
  carried : CarryPlaces l.table (map (λ row. row.items) l.rows.items);
}

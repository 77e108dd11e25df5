use Rattle.std.proofs.Common.{◌≡◌, map, Some}
use Rattle.time_bounds.proofs.size_reasons.entry_rows.Given as goal

abbrev pub invariant-loop-row : goal.invariant-loop-row
invariant-loop-row l = map (λ row. map (λ e. Some e) row.items) l.rows.items ≡ map (λ row. row.items) l.yielded

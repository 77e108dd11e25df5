use Rattle.std.proofs.Common.{◌≡◌, map, Some}
use Rattle.time_bounds.proofs.size_reasons.entry_row.Given as goal

abbrev pub invariant-loop-entry : goal.invariant-loop-entry
invariant-loop-entry l = map (λ e. Some e) l.said.items ≡ l.yielded

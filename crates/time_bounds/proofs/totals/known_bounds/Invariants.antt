use Rattle.std.proofs.Common.{◌≡◌}
use Rattle.bound_expr.specs.Views.{bounds_of, parts_of}
use Rattle.time_bounds.specs.Totals.{spendings_by, known_parts}
use Rattle.time_bounds.proofs.KnownTimes.{all_before, known_from}
use Rattle.time_bounds.proofs.totals.known_bounds.Given as goal

-- the bounds so far and the remaining ones are all
abbrev pub invariant-loop-i : goal.invariant-loop-i
invariant-loop-i l =
    known_parts (spendings_by l.times l.costs) ≡ all_before (parts_of (bounds_of l.bounds.items)) (known_from l.times l.costs l.i)

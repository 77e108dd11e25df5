use Rattle.std.proofs.Common.{◌≡◌, replicate, None}
use Rattle.time_bounds.proofs.sets.no_marks.Given as goal

abbrev pub invariant-loop-symbol : goal.invariant-loop-symbol
invariant-loop-symbol l = l.marks.items ≡ replicate l._symbol-index None

use Rattle.std.proofs.Common.{◌-◌, length}
use Rattle.cert_types.specs.AnswerViews.{gap_of}
use Rattle.gap_checks.specs.GapBalances.{program}
use Rattle.gap_checks.proofs.SymbolsInOrder.{AreDoneBefore}
use Rattle.gap_checks.proofs.balancing.first_of_touches.Given as goal

-- the symbols so far are balanced
abbrev pub invariant-loop-start : goal.invariant-loop-start
invariant-loop-start l = AreDoneBefore (program l.rules) (gap_of l.g) l.touches l.start

abbrev pub decreases-loop-start : goal.decreases-loop-start
decreases-loop-start l = length l.touches - l.start

use Rattle.cert_types.specs.AnswerViews.{gap_of}
use Rattle.gap_checks.specs.GapBalances.{program}
use Rattle.gap_checks.proofs.Sums.{AreSumsSoFar}
use Rattle.gap_checks.proofs.balancing.nets_of.Given as goal

-- the sums after the touches of the symbol so far
abbrev pub invariant-loop-index : goal.invariant-loop-index
invariant-loop-index l = AreSumsSoFar (program l.rules) (gap_of l.g) l.touches l.group.symbol l.index l.sums

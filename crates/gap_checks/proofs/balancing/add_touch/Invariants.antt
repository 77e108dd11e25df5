use Rattle.cert_types.specs.cert_program.RankedSets.{forms_at}
use Rattle.cert_types.specs.AnswerViews.{gap_of}
use Rattle.gap_checks.specs.GapBalances.{program}
use Rattle.gap_checks.specs.GapTests.{coefficient_at}
use Rattle.gap_checks.specs.Touches.{share_of}
use Rattle.gap_checks.proofs.Sums.{AreAddedBefore}
use Rattle.gap_checks.proofs.balancing.add_touch.Given as goal

-- the contribution of one move to the balances was added to the places so far
abbrev pub invariant-loop-place : goal.invariant-loop-place
invariant-loop-place l =
    AreAddedBefore (λ k. share_of (forms_at (program l.rules)) (gap_of l.g).set (gap_of l.g).moves
    (coefficient_at l.touch.symbol k) l.touch) l.place l.fn.sums l.sums

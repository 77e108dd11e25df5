use Rattle.gap_checks.proofs.ShutRows.{AreMarkedBefore}
use Rattle.gap_checks.proofs.shut_places.mark_shut.Given as goal

-- the flags of the shut places so far are set
abbrev pub invariant-loop-result_variable : goal.invariant-loop-result_variable
invariant-loop-result_variable l = AreMarkedBefore l.touches l.shut l.result_variable-index l.rows

use Rattle.run_replay.proofs.ReplayFaults.{replay_steps}
use Rattle.lasso_check.proofs.WorkedChecks.{checks_worked}
use Rattle.lasso_check.proofs.checking_law.worked_checks_hold.Goals as goal

pub returns : goal.returns
returns c =
    checks_worked (replay_steps c.steps_have_no_fault.ensures c.costs_have_no_fault.ensures) c.replays_are_decided.ensures

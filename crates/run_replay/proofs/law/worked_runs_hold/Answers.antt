use Rattle.run_replay.proofs.WorkedRuns.{runs_worked}
use Rattle.run_replay.proofs.law.worked_runs_hold.Goals as goal

pub returns : goal.returns
returns c = runs_worked

use Rattle.run_replay.proofs.ReplayFaults.{replay_steps}
use Rattle.run_replay.proofs.WorkedReplays.{replays_worked}
use Rattle.run_replay.proofs.replaying_law.worked_replays_hold.Goals as goal

pub returns : goal.returns
returns c = replays_worked (replay_steps c.steps_have_no_fault.ensures c.costs_have_no_fault.ensures)

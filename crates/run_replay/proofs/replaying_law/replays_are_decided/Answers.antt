use Rattle.run_replay.proofs.ReplayFaults.{replay_steps}
use Rattle.run_replay.proofs.ReplayLaws.{replays_decided}
use Rattle.run_replay.proofs.replaying_law.replays_are_decided.Goals as goal

pub returns : goal.returns
returns c = replays_decided (replay_steps c.steps_have_no_fault.ensures c.costs_have_no_fault.ensures)

use Rattle.run_replay.proofs.ReplayFaults.{replay_steps}
use Rattle.moving_check.proofs.WorkedMoving.{lassos_found, forms_exchanged}
use Rattle.moving_check.proofs.law.worked_moving_hold.Goals as goal

pub returns : goal.returns
returns c = record {
  found = lassos_found (replay_steps c.steps_have_no_fault.ensures c.costs_have_no_fault.ensures) c.replays_are_decided.ensures;
  forms = forms_exchanged;
}

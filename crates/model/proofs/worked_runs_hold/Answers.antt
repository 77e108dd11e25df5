use Rattle.model.proofs.WorkedRuns.{below_zero, steps_are_steps, runs_are_runs}
use Rattle.model.proofs.worked_runs_hold.Goals as goal

pub returns : goal.returns
returns c = record { relations = below_zero; steps = steps_are_steps; runs = runs_are_runs }

use Rattle.model.proofs.StepLaws.{step_by_step}
use Rattle.model.proofs.runs.runs_go_step_by_step.Goals as goal

pub returns : goal.returns
returns c = step_by_step

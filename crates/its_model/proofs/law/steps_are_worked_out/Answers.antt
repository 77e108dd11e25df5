use Rattle.its_model.proofs.WorkedSteps.{steps-are-worked-out}
use Rattle.its_model.proofs.law.steps_are_worked_out.Goals as goal

pub returns : goal.returns
returns c = steps-are-worked-out

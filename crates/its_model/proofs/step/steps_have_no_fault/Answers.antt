use Rattle.its_model.proofs.StepLaws.{steps-have-no-fault}
use Rattle.its_model.proofs.step.steps_have_no_fault.Goals as goal

pub returns : goal.returns
returns c = steps-have-no-fault

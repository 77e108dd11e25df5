use Rattle.refined_text.proofs.WorkedOutcomes.{worked}
use Rattle.refined_text.proofs.law.worked_outcomes_hold.Goals as goal

pub returns : goal.returns
returns c = worked

use Rattle.refined_writer.proofs.WorkedValues.{worked_texts}
use Rattle.refined_writer.proofs.law.worked_texts_hold.Goals as goal

pub returns : goal.returns
returns c = worked_texts

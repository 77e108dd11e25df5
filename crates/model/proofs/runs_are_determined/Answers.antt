use Rattle.model.proofs.RunLaws.{same_end}
use Rattle.model.proofs.runs_are_determined.Goals as goal

pub returns : goal.returns
returns c = same_end

use Rattle.model.proofs.PathValues.{paths_are_worked}
use Rattle.model.proofs.runs.paths_are_as_worked_out.Goals as goal

pub returns : goal.returns
returns c = paths_are_worked

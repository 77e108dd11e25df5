use Rattle.time_bounds.proofs.WorkedWhys.{whys_worked}
use Rattle.time_bounds.proofs.law.reasons_are_as_worked_out.Goals as goal

pub returns : goal.returns
returns c = whys_worked

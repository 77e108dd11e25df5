use Rattle.its_model.proofs.WorkedPrograms.{programs-are-worked-out}
use Rattle.its_model.proofs.law.programs_are_worked_out.Goals as goal

pub returns : goal.returns
returns c = programs-are-worked-out

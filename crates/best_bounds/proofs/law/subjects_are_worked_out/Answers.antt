use Rattle.best_bounds.proofs.WorkedSubjects.{subjects_worked_out}
use Rattle.best_bounds.proofs.law.subjects_are_worked_out.Goals as goal

pub returns : goal.returns
returns c = subjects_worked_out

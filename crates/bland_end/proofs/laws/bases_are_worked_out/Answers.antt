use Rattle.bland_end.proofs.WorkedBases.{sets, counted, compared, bound}
use Rattle.bland_end.proofs.laws.bases_are_worked_out.Goals as goal

pub returns : goal.returns
returns c = record { sets = sets; counted = counted; compared = compared; bound = bound }

use Rattle.bound_fixpoint.proofs.WorkedSets.{sets_worked}
use Rattle.bound_fixpoint.proofs.WorkedShut.{shut-worked}
use Rattle.bound_fixpoint.proofs.sets_are_as_worked_out.Goals as goal

pub returns : goal.returns
returns c = record { sets = sets_worked; shut = shut-worked }

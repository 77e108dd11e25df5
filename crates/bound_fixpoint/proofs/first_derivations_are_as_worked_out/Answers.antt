use Rattle.bound_fixpoint.proofs.WorkedFirst.{first_worked}
use Rattle.bound_fixpoint.proofs.WorkedBeginnings.{beginnings_worked}
use Rattle.bound_fixpoint.proofs.WorkedRight.{right_worked, rankings_worked}
use Rattle.bound_fixpoint.proofs.first_derivations_are_as_worked_out.Goals as goal

pub returns : goal.returns
returns c = record { first = first_worked; right = right_worked; rankings = rankings_worked; beginnings = beginnings_worked }

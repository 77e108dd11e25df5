use Rattle.bound_fixpoint.proofs.WorkedRounds.{first_round}
use Rattle.bound_fixpoint.proofs.WorkedLaterRounds.{later_rounds}
use Rattle.bound_fixpoint.proofs.WorkedLastRounds.{last_rounds}
use Rattle.bound_fixpoint.proofs.WorkedReasons.{reasons_worked}
use Rattle.bound_fixpoint.proofs.rounds_are_as_worked_out.Goals as goal

pub returns : goal.returns
returns c = record { first = first_round; later = later_rounds; reasons = reasons_worked; last = last_rounds }

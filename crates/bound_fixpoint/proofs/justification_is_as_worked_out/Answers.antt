use Rattle.bound_fixpoint.proofs.WorkedBeginnings.{empty_worked}
use Rattle.bound_fixpoint.proofs.WorkedJustification.{justification_worked}
use Rattle.bound_fixpoint.proofs.WorkedStated.{said_worked}
use Rattle.bound_fixpoint.proofs.justification_is_as_worked_out.Goals as goal

pub returns : goal.returns
returns c = record { standing = justification_worked; empty = empty_worked; said = said_worked }

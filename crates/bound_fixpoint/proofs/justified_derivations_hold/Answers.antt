use Rattle.bound_fixpoint.proofs.JustificationLaws.{hold}
use Rattle.bound_fixpoint.proofs.justified_derivations_hold.Goals as goal

pub returns : goal.returns
returns c = hold

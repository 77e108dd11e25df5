use Rattle.bound_fixpoint.proofs.DerivationsAreOne.{last_derivations_one}
use Rattle.bound_fixpoint.proofs.last_derivations_are_one.Goals as goal

pub returns : goal.returns
returns c = last_derivations_one

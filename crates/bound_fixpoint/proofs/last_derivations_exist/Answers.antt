use Rattle.bound_fixpoint.proofs.LastExists.{last_derivations}
use Rattle.bound_fixpoint.proofs.last_derivations_exist.Goals as goal

pub returns : goal.returns
returns c = last_derivations

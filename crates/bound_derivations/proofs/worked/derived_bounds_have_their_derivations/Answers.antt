use Rattle.bound_derivations.proofs.WorkedValues.{have_their_derivations}
use Rattle.bound_derivations.proofs.worked.derived_bounds_have_their_derivations.Goals as goal

pub returns : goal.returns
returns c = have_their_derivations

use Rattle.bound_fixpoint.proofs.SizesAreJustified.{derivations_justified}
use Rattle.bound_fixpoint.proofs.made_derivations_are_justified.Goals as goal

pub returns : goal.returns
returns c = derivations_justified

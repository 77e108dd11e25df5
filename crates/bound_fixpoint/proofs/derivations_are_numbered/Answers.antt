use Rattle.bound_fixpoint.proofs.JustificationLaws.{are_numbered}
use Rattle.bound_fixpoint.proofs.derivations_are_numbered.Goals as goal

pub returns : goal.returns
returns c = are_numbered

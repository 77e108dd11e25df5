use Rattle.bound_fixpoint.proofs.JustificationLaws.{have_lemmas}
use Rattle.bound_fixpoint.proofs.justified_derivations_have_lemmas.Goals as goal

pub returns : goal.returns
returns c = have_lemmas

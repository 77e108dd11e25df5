use Rattle.refinement.proofs.Keeping as lemmas
use Rattle.refinement.proofs.weaker_guards_keep_bounds.Goals as goal

pub returns : goal.returns
returns c = lemmas.weaker_guards_keep_bounds

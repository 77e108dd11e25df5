use Rattle.refinement.proofs.Keeping as lemmas
use Rattle.refinement.proofs.right_sections_keep_bounds.Goals as goal

pub returns : goal.returns
returns c = lemmas.right_sections_keep_bounds

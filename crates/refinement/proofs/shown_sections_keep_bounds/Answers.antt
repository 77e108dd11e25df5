use Rattle.refinement.proofs.Keeping as lemmas
use Rattle.refinement.proofs.shown_sections_keep_bounds.Goals as goal

pub returns : goal.returns
returns c = lemmas.shown_sections_keep_bounds

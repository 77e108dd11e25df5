use Rattle.refinement_check.proofs.Keeping as lemmas
use Rattle.refinement_check.proofs.laws.accepted_sections_keep_bounds.Goals as goal

pub returns : goal.returns
returns c = lemmas.accepted_sections_keep_bounds

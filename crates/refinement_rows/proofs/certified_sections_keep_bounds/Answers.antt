use Rattle.refinement_rows.proofs.CertifiedLaws as lemmas
use Rattle.refinement_rows.proofs.certified_sections_keep_bounds.Goals as goal

pub returns : goal.returns
returns c = lemmas.certified_sections_keep_bounds

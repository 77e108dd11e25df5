use Rattle.section_makers.proofs.Weaker as lemmas
use Rattle.section_makers.proofs.atoms.lighter_programs_keep_bounds.Goals as goal

pub returns : goal.returns
returns c = lemmas.lighter_programs_keep_bounds

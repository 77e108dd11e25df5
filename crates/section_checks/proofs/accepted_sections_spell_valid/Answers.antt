use Rattle.section_checks.proofs.Deciding as lemmas
use Rattle.section_checks.proofs.accepted_sections_spell_valid.Goals as goal

pub returns : goal.returns
returns c = lemmas.accepted_sections_spell_valid

use Rattle.refined_text.proofs.Accepted.{sections_accepted}
use Rattle.refined_text.proofs.law.sections_read_are_accepted.Goals as goal

pub returns : goal.returns
returns c = sections_accepted c.accepted_sections_spell_valid.ensures

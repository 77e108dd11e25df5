use Rattle.refined_text.proofs.Accepted.{files_within}
use Rattle.refined_text.proofs.law.files_read_are_within_limits.Goals as goal

pub returns : goal.returns
returns c =
    files_within c.parts_are_unique.ensures c.accepted_sections_spell_valid.ensures c.files_are_their_texts.ensures

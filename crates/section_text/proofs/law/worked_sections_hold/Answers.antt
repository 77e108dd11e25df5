use Rattle.section_text.proofs.WorkedSections.{worked_sections}
use Rattle.section_text.proofs.law.worked_sections_hold.Goals as goal

pub returns : goal.returns
returns c = worked_sections

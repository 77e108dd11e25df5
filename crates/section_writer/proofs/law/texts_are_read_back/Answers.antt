use Rattle.section_writer.proofs.SectionTexts.{texts_are_read_back}
use Rattle.section_writer.proofs.law.texts_are_read_back.Goals as goal

pub returns : goal.returns
returns c = texts_are_read_back

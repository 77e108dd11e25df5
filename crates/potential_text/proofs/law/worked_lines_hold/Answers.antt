use Rattle.potential_text.proofs.WorkedTexts.{worked_lines}
use Rattle.potential_text.proofs.law.worked_lines_hold.Goals as goal

pub returns : goal.returns
returns c = worked_lines

-- The worked values hold.
use Rattle.text_core.proofs.WorkedLines.{worked_lines}
use Rattle.text_core.proofs.law.worked_lines_hold.Goals as goal

pub returns : goal.returns
returns c = worked_lines

-- the worked values
use Rattle.report_text.proofs.WorkedTexts.{texts_are_worked_out}
use Rattle.report_text.proofs.law.texts_are_worked_out.Goals as goal

pub returns : goal.returns
returns c = texts_are_worked_out

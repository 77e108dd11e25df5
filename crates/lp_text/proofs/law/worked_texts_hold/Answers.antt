use Rattle.lp_text.proofs.WorkedTexts.{texts_worked}
use Rattle.lp_text.proofs.law.worked_texts_hold.Goals as goal

pub returns : goal.returns
returns c = texts_worked

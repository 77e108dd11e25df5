use Rattle.lp_answer.proofs.WorkedTexts.{answers_worked}
use Rattle.lp_answer.proofs.law.worked_answers_hold.Goals as goal

pub returns : goal.returns
returns c = answers_worked

use Rattle.lp_answer.proofs.OneAnswer.{one_answer}
use Rattle.lp_answer.proofs.law.lp_answers_are_one.Goals as goal

pub returns : goal.returns
returns c = one_answer

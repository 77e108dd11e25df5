use Rattle.rule_questions.proofs.OneEmptyAnswer.{empties-one}
use Rattle.rule_questions.proofs.laws.empty_answers_are_one.Goals as goal

pub returns : goal.returns
returns c = empties-one

use Rattle.rule_questions.proofs.Exact.{answers-exact}
use Rattle.rule_questions.proofs.laws.empty_answers_are_exact.Goals as goal

pub returns : goal.returns
returns c = answers-exact

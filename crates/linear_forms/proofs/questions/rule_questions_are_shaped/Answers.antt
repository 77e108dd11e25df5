use Rattle.linear_forms.proofs.RuleShapes.{questions-shaped}
use Rattle.linear_forms.proofs.questions.rule_questions_are_shaped.Goals as goal

pub returns : goal.returns
returns c = questions-shaped

use Rattle.linear_forms.proofs.WorkedQuestions.{question-values}
use Rattle.linear_forms.proofs.questions.questions_have_these_programs.Goals as goal

pub returns : goal.returns
returns c = question-values

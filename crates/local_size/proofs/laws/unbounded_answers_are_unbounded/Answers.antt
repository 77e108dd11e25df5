use Rattle.local_size.proofs.UnboundedAnswers.{unbounded-answers}
use Rattle.local_size.proofs.laws.unbounded_answers_are_unbounded.Goals as goal

pub returns : goal.returns
returns c = unbounded-answers

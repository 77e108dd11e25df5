use Rattle.simplex_core.proofs.OneAnswer.{answers-same}
use Rattle.simplex_core.proofs.laws.answers_are_one.Goals as goal

pub returns : goal.returns
returns c = record { each = answers-same }

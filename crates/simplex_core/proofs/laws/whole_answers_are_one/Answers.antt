use Rattle.simplex_core.proofs.OneWholeAnswer.{whole-same, causes-same}
use Rattle.simplex_core.proofs.laws.whole_answers_are_one.Goals as goal

pub returns : goal.returns
returns c = record { each = whole-same; causes = causes-same }

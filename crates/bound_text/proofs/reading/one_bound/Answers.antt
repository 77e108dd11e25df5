use Rattle.bound_text.proofs.TextAnswers.{one_bound}
use Rattle.bound_text.proofs.reading.one_bound.Goals as goal

pub returns : goal.returns
returns c = one_bound

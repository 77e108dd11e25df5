use Rattle.local_size.proofs.OneLocal.{locals-one}
use Rattle.local_size.proofs.laws.local_answers_are_one.Goals as goal

pub returns : goal.returns
returns c = locals-one

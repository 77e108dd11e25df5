use Rattle.local_size.proofs.Exact.{answers-exact}
use Rattle.local_size.proofs.laws.local_answers_are_exact.Goals as goal

pub returns : goal.returns
returns c = answers-exact

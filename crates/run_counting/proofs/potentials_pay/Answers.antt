use Rattle.run_counting.proofs.Counting as lemmas
use Rattle.run_counting.proofs.potentials_pay.Goals as goal

pub returns : goal.returns
returns c = lemmas.potentials_pay

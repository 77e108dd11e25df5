use Rattle.potentials.proofs.LevelLaws as lemmas
use Rattle.potentials.proofs.potentials_pay_for_goals.Goals as goal

pub returns : goal.returns
returns c = lemmas.potentials_pay

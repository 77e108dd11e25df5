use Rattle.potentials.proofs.PhaseLaws as lemmas
use Rattle.potentials.proofs.phases_hold.Goals as goal

pub returns : goal.returns
returns c = lemmas.phases_hold

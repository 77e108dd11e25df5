use Rattle.potentials.proofs.SumLaws as lemmas
use Rattle.potentials.proofs.all_sums_say.Goals as goal

pub returns : goal.returns
returns c = lemmas.sums_say

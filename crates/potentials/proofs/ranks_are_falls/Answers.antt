use Rattle.potentials.proofs.RankLaws as lemmas
use Rattle.potentials.proofs.ranks_are_falls.Goals as goal

pub returns : goal.returns
returns c = lemmas.ranks_are_falls

use Rattle.potentials.proofs.LevelLaws as lemmas
use Rattle.potentials.proofs.potentials_cover_peaks.Goals as goal

pub returns : goal.returns
returns c = lemmas.potentials_cover

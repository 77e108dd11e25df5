use Rattle.potential_nodes.proofs.PeakLaws as lemmas
use Rattle.potential_nodes.proofs.peaks_are_sound.Goals as goal

pub returns : goal.returns
returns c = lemmas.peaks-sound c.within_holds.ensures

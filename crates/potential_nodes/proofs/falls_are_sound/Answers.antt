use Rattle.potential_nodes.proofs.FallLaws as lemmas
use Rattle.potential_nodes.proofs.falls_are_sound.Goals as goal

pub returns : goal.returns
returns c = lemmas.falls-sound c.within_holds.ensures

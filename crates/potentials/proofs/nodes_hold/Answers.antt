use Rattle.potentials.proofs.NodeLaws as lemmas
use Rattle.potentials.proofs.nodes_hold.Goals as goal

pub returns : goal.returns
returns c = lemmas.nodes_hold

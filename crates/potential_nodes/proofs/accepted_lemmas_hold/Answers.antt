use Rattle.potential_nodes.proofs.AcceptanceLaws as lemmas
use Rattle.potential_nodes.proofs.accepted_lemmas_hold.Goals as goal

pub returns : goal.returns
returns c = lemmas.accepted-lemmas c.within_holds.ensures

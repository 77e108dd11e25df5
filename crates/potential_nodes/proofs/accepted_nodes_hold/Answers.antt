use Rattle.potential_nodes.proofs.AcceptanceLaws as lemmas
use Rattle.potential_nodes.proofs.accepted_nodes_hold.Goals as goal

pub returns : goal.returns
returns c = lemmas.accepted-nodes c.within_holds.ensures

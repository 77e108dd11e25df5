use Rattle.potential_nodes.proofs.AcceptanceLaws as lemmas
use Rattle.potential_nodes.proofs.refusals_are_first.Goals as goal

pub returns : goal.returns
returns c = lemmas.refusals_are_first

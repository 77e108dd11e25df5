use Rattle.potential_nodes.proofs.CheckLaws as lemmas
use Rattle.potential_nodes.proofs.refusals_are_failures.Goals as goal

pub returns : goal.returns
returns c = lemmas.refusals_are_failures

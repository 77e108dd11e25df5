use Rattle.potential_nodes.proofs.FactMeaningLaws as lemmas
use Rattle.potential_nodes.proofs.facts_bound_runs.Goals as goal

pub returns : goal.returns
returns c = lemmas.facts_bound_runs

use Rattle.potential_nodes.proofs.PlainFactLaws as lemmas
use Rattle.potential_nodes.proofs.signed_costs_are_costs.Goals as goal

pub returns : goal.returns
returns c = lemmas.signed-costs c.signed_bounds_keep_values.ensures

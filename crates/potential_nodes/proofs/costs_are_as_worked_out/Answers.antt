use Rattle.potential_nodes.proofs.PlainFactLaws as lemmas
use Rattle.potential_nodes.proofs.costs_are_as_worked_out.Goals as goal

pub returns : goal.returns
returns c = lemmas.costs-worked_out c.signed_bounds_keep_values.ensures

use Rattle.potential_nodes.proofs.PlainFactLaws as lemmas
use Rattle.potential_nodes.proofs.plain_facts_hold.Goals as goal

pub returns : goal.returns
returns c = lemmas.plain-facts c.signed_bounds_keep_values.ensures

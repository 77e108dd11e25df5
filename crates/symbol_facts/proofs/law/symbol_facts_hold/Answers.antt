use Rattle.symbol_facts.proofs.Holding.{symbol-facts-hold}
use Rattle.symbol_facts.proofs.law.symbol_facts_hold.Goals as goal

pub returns : goal.returns
returns c = symbol-facts-hold c.accepted_sections_are_certified.ensures

use Rattle.location_facts.proofs.WorkedFacts.{facts-are-worked-out}
use Rattle.location_facts.proofs.laws.facts_are_as_worked_out.Goals as goal

pub returns : goal.returns
returns c = facts-are-worked-out

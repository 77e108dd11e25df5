use Rattle.location_facts.proofs.ProvedFacts.{facts-hold}
use Rattle.location_facts.proofs.laws.proved_facts_hold.Goals as goal

pub returns : goal.returns
returns c = facts-hold

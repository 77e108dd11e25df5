use Rattle.location_facts.proofs.Next.{kept-one}
use Rattle.location_facts.proofs.laws.kept_facts_are_one.Goals as goal

pub returns : goal.returns
returns c = kept-one

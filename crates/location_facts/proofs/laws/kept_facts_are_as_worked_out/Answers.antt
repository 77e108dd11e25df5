use Rattle.location_facts.proofs.WorkedSomeKept.{kept-facts-are-worked-out}
use Rattle.location_facts.proofs.laws.kept_facts_are_as_worked_out.Goals as goal

pub returns : goal.returns
returns c = kept-facts-are-worked-out

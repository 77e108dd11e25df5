use Rattle.location_facts.proofs.FirstFaults.{faults-are-decided}
use Rattle.location_facts.proofs.laws.faults_are_decided.Goals as goal

pub returns : goal.returns
returns c = faults-are-decided

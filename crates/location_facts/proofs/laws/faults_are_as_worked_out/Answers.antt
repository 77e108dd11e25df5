use Rattle.location_facts.proofs.WorkedFaults.{faults-are-worked-out}
use Rattle.location_facts.proofs.laws.faults_are_as_worked_out.Goals as goal

pub returns : goal.returns
returns c = faults-are-worked-out

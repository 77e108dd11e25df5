use Rattle.location_facts.proofs.StrongLaws.{strengthening-changes-no-run}
use Rattle.location_facts.proofs.laws.strengthening_changes_no_run.Goals as goal

pub returns : goal.returns
returns c = strengthening-changes-no-run

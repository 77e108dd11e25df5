use Rattle.koat_cli.proofs.WorkedEnds.{faults_leave}
use Rattle.koat_cli.proofs.law.worked_ends_hold.Goals as goal

pub returns : goal.returns
returns c = faults_leave

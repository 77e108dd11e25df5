use Rattle.koat_cli.proofs.WorkedMeanings.{statuses_mean, reports_of_programs}
use Rattle.koat_cli.proofs.law.worked_meanings_hold.Goals as goal

pub returns : goal.returns
returns c = record { statuses = statuses_mean; reports = reports_of_programs }

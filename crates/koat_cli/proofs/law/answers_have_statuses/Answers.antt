use Rattle.koat_cli.proofs.Statuses.{answers_have_statuses}
use Rattle.koat_cli.proofs.law.answers_have_statuses.Goals as goal

pub returns : goal.returns
returns c = answers_have_statuses

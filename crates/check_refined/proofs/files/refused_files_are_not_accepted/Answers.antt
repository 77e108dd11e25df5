use Rattle.check_refined.proofs.Exclusion.{refused-not-accepted}
use Rattle.check_refined.proofs.files.refused_files_are_not_accepted.Goals as goal

pub returns : goal.returns
returns c = refused-not-accepted

use Rattle.check_refined.proofs.WorkedFiles.{answered}
use Rattle.check_refined.proofs.files.files_are_answered.Goals as goal

pub returns : goal.returns
returns c = answered c.files_are_answered.ensures.answered

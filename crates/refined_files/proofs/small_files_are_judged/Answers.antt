use Rattle.refined_files.proofs.WorkedFiles.{small-files}
use Rattle.refined_files.proofs.small_files_are_judged.Goals as goal

pub returns : goal.returns
returns c = small-files

use Rattle.check_file.proofs.WorkedFiles.{files-numbered, files-answered}
use Rattle.check_file.proofs.files.files_are_answered.Goals as goal

pub returns-clause-numbered : goal.returns-clause-numbered
returns-clause-numbered c = files-numbered

pub returns-clause-answered : goal.returns-clause-answered
returns-clause-answered c = files-answered

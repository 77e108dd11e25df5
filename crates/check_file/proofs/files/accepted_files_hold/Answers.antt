use Rattle.cert_types.proofs.cert_program.Files.{files-hold}
use Rattle.check_file.proofs.files.accepted_files_hold.Goals as goal

pub returns : goal.returns
returns c = files-hold

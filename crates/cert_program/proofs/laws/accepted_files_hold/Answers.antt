use Rattle.cert_program.proofs.Files as lemmas
use Rattle.cert_program.proofs.laws.accepted_files_hold.Goals as goal

pub returns : goal.returns
returns c = lemmas.files-hold

use Rattle.cert_rules.proofs.FilesInLine as lemmas
use Rattle.cert_rules.proofs.accepted_files_hold.Goals as goal

pub returns : goal.returns
returns c = lemmas.accepted-files-hold

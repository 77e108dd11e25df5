use Rattle.analysis_certs.proofs.ProvedFiles.{proved-accepted}
use Rattle.analysis_certs.proofs.proved_files_are_accepted.Goals as goal

pub returns : goal.returns
returns c = proved-accepted

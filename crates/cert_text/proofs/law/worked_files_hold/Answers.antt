-- The worked answers hold.
use Rattle.cert_text.proofs.WorkedFaults.{files_worked_out}
use Rattle.cert_text.proofs.law.worked_files_hold.Goals as goal

pub returns : goal.returns
returns c = files_worked_out

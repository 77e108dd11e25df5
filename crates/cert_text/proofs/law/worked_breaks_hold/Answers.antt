-- The worked cuts and breaks hold.
use Rattle.cert_text.proofs.WorkedBreaks.{reading_worked_out}
use Rattle.cert_text.proofs.law.worked_breaks_hold.Goals as goal

pub returns : goal.returns
returns c = reading_worked_out

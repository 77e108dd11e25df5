-- The worked texts and limits hold.
use Rattle.cert_text.proofs.WorkedTexts.{texts_worked_out}
use Rattle.cert_text.proofs.WorkedLimits.{limits_worked_out}
use Rattle.cert_text.proofs.law.worked_texts_hold.Goals as goal

pub returns : goal.returns
returns c = record { texts = texts_worked_out; limits = limits_worked_out }

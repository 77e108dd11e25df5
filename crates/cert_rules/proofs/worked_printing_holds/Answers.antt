use Rattle.cert_rules.proofs.WorkedPrintable as lemmas
use Rattle.cert_rules.proofs.worked_printing_holds.Goals as goal

pub returns : goal.returns
returns c = lemmas.printing_judged

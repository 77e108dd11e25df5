use Rattle.cert_rules.proofs.Deciding as lemmas
use Rattle.cert_rules.proofs.first_reasons_are_in_line.Goals as goal

pub returns : goal.returns
returns c = lemmas.first-reasons-in-line

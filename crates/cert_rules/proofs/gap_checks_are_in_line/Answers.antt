use Rattle.cert_rules.proofs.GapsInLine as lemmas
use Rattle.cert_rules.proofs.gap_checks_are_in_line.Goals as goal

pub returns : goal.returns
returns c = lemmas.gap-checks-in-line

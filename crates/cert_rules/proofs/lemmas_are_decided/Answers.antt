use Rattle.cert_rules.proofs.Refusals as lemmas
use Rattle.cert_rules.proofs.lemmas_are_decided.Goals as goal

pub returns : goal.returns
returns c = lemmas.lemmas-decided

use Rattle.cert_rules.proofs.Soundness as lemmas
use Rattle.cert_rules.proofs.accepted_facts_hold.Goals as goal

pub returns : goal.returns
returns c = lemmas.accepted_facts_hold

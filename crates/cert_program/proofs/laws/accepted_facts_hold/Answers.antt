use Rattle.cert_program.proofs.Faithful as lemmas
use Rattle.cert_program.proofs.laws.accepted_facts_hold.Goals as goal

pub returns : goal.returns
returns c = lemmas.accepted-hold

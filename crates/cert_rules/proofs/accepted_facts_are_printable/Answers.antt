use Rattle.cert_rules.proofs.PrintableFacts as lemmas
use Rattle.cert_rules.proofs.accepted_facts_are_printable.Goals as goal

pub returns : goal.returns
returns c = lemmas.accepted-facts-printable

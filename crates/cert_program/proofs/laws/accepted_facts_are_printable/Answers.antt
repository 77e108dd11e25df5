use Rattle.cert_program.proofs.Tidying as lemmas
use Rattle.cert_program.proofs.laws.accepted_facts_are_printable.Goals as goal

pub returns : goal.returns
returns c = record { tidying = lemmas.settings-tidying; printable = lemmas.facts-printable }

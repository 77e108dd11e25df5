use Rattle.section_checks.proofs.Deciding as lemmas
use Rattle.section_checks.proofs.first_faults_are_unique.Goals as goal

pub returns : goal.returns
returns c = lemmas.first_faults_are_unique

use Rattle.section_decide.proofs.Deciding as lemmas
use Rattle.section_decide.proofs.faults_are_computed.Goals as goal

pub returns : goal.returns
returns c = lemmas.faults_are_computed

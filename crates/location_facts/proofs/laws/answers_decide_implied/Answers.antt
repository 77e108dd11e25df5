use Rattle.location_facts.proofs.ProgramAnswers.{answers-tell-implied}
use Rattle.location_facts.proofs.laws.answers_decide_implied.Goals as goal

pub returns : goal.returns
returns c = answers-tell-implied

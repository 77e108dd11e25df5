use Rattle.location_facts.proofs.CandidateList.{candidates-are-listed}
use Rattle.location_facts.proofs.laws.candidates_are_listed.Goals as goal

pub returns : goal.returns
returns c = candidates-are-listed

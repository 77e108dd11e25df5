use Rattle.lassos.proofs.Laws as lemmas
use Rattle.lassos.proofs.moved_turns_lead.Goals as goal

pub returns : goal.returns
returns c = lemmas.moved_turns_lead

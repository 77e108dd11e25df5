use Rattle.program_claims.proofs.WorkedMeanings as lemmas
use Rattle.program_claims.proofs.meanings_are_worked_out.Goals as goal

pub returns : goal.returns
returns c = lemmas.meanings

use Rattle.cert_program.proofs.WorkedGaps as lemmas
use Rattle.cert_program.proofs.laws.gaps_are_as_worked_out.Goals as goal

pub returns : goal.returns
returns c = record { sets = lemmas.sets_worked_out; gaps = lemmas.gaps_of_programs }

-- Programs are read as they are written.
use Rattle.while_laws.proofs.DerivingPrograms as lemmas
use Rattle.while_laws.proofs.ProgramsAccepted as accepted
use Rattle.while_laws.proofs.programs_alike.Goals as goal

pub returns : goal.returns
returns c = record { derived = lemmas.programs_derived; read = accepted.programs_read }

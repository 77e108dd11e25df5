-- Small texts have the worked answers.
use Rattle.while_laws.proofs.WorkedReadings as lemmas
use Rattle.while_laws.proofs.worked_readings_hold.Goals as goal

pub returns : goal.returns
returns c = lemmas.readings_worked

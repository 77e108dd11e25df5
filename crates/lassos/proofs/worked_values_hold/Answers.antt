use Rattle.lassos.proofs.WorkedLassos.{lassos_are_found, slopes_are_found}
use Rattle.lassos.proofs.worked_values_hold.Goals as goal

pub returns : goal.returns
returns c = record { lassos = lassos_are_found; slopes = slopes_are_found }

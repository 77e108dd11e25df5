use Rattle.outside_io.proofs.WorkedPuts.{counts, prefixes}
use Rattle.outside_io.proofs.worked.worked_puts_hold.Goals as goal

pub returns : goal.returns
returns c = record { counts = counts; prefixes = prefixes }

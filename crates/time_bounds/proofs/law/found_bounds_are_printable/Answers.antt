use Rattle.time_bounds.proofs.Printables.{found_printable}
use Rattle.time_bounds.proofs.law.found_bounds_are_printable.Goals as goal

pub returns : goal.returns
returns c = found_printable

use Rattle.bland_end.proofs.WorkedPivots.{pivots}
use Rattle.bland_end.proofs.laws.pivots_are_worked_out.Goals as goal

pub returns : goal.returns
returns c = pivots

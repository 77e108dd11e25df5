use Rattle.bland_end.proofs.Counts.{pivots-few}
use Rattle.bland_end.proofs.laws.pivots_are_few.Goals as goal

pub returns : goal.returns
returns c = record { each = pivots-few }

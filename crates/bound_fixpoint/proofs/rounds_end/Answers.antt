use Rattle.bound_fixpoint.proofs.RoundsEnd.{ends}
use Rattle.bound_fixpoint.proofs.rounds_end.Goals as goal

pub returns : goal.returns
returns c = ends

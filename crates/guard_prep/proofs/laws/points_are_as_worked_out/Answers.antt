use Rattle.guard_prep.proofs.WorkedPoints.{points-are-worked-out}
use Rattle.guard_prep.proofs.laws.points_are_as_worked_out.Goals as goal

pub returns : goal.returns
returns c = points-are-worked-out

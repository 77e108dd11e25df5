use Rattle.guard_prep.proofs.StepLaws.{costs-are-points}
use Rattle.guard_prep.proofs.laws.costs_are_points.Goals as goal

pub returns : goal.returns
returns c = costs-are-points

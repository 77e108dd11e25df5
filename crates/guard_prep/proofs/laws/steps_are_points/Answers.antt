use Rattle.guard_prep.proofs.StepLaws.{steps-are-points}
use Rattle.guard_prep.proofs.laws.steps_are_points.Goals as goal

pub returns : goal.returns
returns c = steps-are-points

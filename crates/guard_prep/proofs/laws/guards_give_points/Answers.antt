use Rattle.guard_prep.proofs.PointLaws.{guards-give-points}
use Rattle.guard_prep.proofs.laws.guards_give_points.Goals as goal

pub returns : goal.returns
returns c = guards-give-points

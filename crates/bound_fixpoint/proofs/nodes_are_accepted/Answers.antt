use Rattle.bound_fixpoint.proofs.JustificationLaws.{nodes_accepted}
use Rattle.bound_fixpoint.proofs.nodes_are_accepted.Goals as goal

pub returns : goal.returns
returns c = nodes_accepted

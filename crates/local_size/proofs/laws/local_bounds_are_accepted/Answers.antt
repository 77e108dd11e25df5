use Rattle.local_size.proofs.Accepted.{bounds-accepted}
use Rattle.local_size.proofs.laws.local_bounds_are_accepted.Goals as goal

pub returns : goal.returns
returns c = bounds-accepted

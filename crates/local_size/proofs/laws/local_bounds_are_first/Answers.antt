use Rattle.local_size.proofs.FirstSideBounds.{bounds-are-first}
use Rattle.local_size.proofs.laws.local_bounds_are_first.Goals as goal

pub returns : goal.returns
returns c = bounds-are-first

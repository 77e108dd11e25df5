use Rattle.size_bounds.proofs.FoundSizes.{found_accepted}
use Rattle.size_bounds.proofs.laws.found_sizes_are_accepted.Goals as goal

pub returns : goal.returns
returns c = found_accepted

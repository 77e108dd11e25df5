use Rattle.time_bounds.proofs.RightSizings.{program_searches_right}
use Rattle.time_bounds.proofs.law.searches_are_right.Goals as goal

pub returns : goal.returns
returns c = program_searches_right

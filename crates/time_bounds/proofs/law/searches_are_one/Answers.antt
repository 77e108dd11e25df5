use Rattle.time_bounds.proofs.OneProgram.{program_searches_one}
use Rattle.time_bounds.proofs.law.searches_are_one.Goals as goal

pub returns : goal.returns
returns c = program_searches_one

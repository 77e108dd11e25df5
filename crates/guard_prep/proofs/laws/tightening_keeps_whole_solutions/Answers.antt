use Rattle.guard_prep.proofs.TighteningLaws.{keeps-whole-solutions}
use Rattle.guard_prep.proofs.laws.tightening_keeps_whole_solutions.Goals as goal

pub returns : goal.returns
returns c = keeps-whole-solutions

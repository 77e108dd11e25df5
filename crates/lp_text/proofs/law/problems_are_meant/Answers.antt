use Rattle.lp_text.proofs.LpProblems.{problems_meant}
use Rattle.lp_text.proofs.law.problems_are_meant.Goals as goal

pub returns : goal.returns
returns c = problems_meant

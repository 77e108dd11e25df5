use Rattle.linear_forms.proofs.SolutionLaws.{solution-solves}
use Rattle.linear_forms.proofs.questions.solutions_solve.Goals as goal

pub returns : goal.returns
returns c = record { each = solution-solves }

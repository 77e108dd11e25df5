use Rattle.bound_fixpoint.proofs.WorkedAnswers.{answers_worked, right_sizes, missing_worked}
use Rattle.bound_fixpoint.proofs.WorkedCauses.{causes_worked, gaps_worked}
use Rattle.bound_fixpoint.proofs.answers_are_as_worked_out.Goals as goal

pub returns : goal.returns
returns c = record {
  answers = answers_worked;
  sizes = right_sizes;
  missing = missing_worked;
  causes = causes_worked;
  gaps = gaps_worked;
}

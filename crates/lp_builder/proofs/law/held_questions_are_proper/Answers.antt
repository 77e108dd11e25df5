use Rattle.lp_builder.proofs.Problems.{held-proper, held-agrees}
use Rattle.lp_builder.proofs.law.held_questions_are_proper.Goals as goal

pub returns : goal.returns
returns c = record { proper = held-proper; agrees = held-agrees }

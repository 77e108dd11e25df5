use Rattle.guard_prep.proofs.LinearPart.{rows-are-the-linear-part}
use Rattle.guard_prep.proofs.laws.rows_are_the_linear_part.Goals as goal

pub returns : goal.returns
returns c = rows-are-the-linear-part

use Rattle.guard_prep.proofs.SizeLaws.{rows-are-small}
use Rattle.guard_prep.proofs.laws.rows_are_small.Goals as goal

pub returns : goal.returns
returns c = rows-are-small

use Rattle.bound_fixpoint.proofs.ReasonsExist.{reasons_justified}
use Rattle.bound_fixpoint.proofs.missing_bounds_have_reasons.Goals as goal

pub returns : goal.returns
returns c = reasons_justified

use Rattle.time_bounds.proofs.TrueWhys.{analyses_give_reasons}
use Rattle.time_bounds.proofs.law.reasons_are_true.Goals as goal

pub returns : goal.returns
returns c = analyses_give_reasons

use Rattle.bound_text.proofs.WorkedLimits.{limits_of_texts_met}
use Rattle.bound_text.proofs.law.limits_of_texts_are_met.Goals as goal

pub returns : goal.returns
returns c = limits_of_texts_met

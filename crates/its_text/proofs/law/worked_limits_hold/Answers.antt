-- The worked values at the limits hold.
use Rattle.its_text.proofs.WorkedLimits.{limits_are_worked}
use Rattle.its_text.proofs.law.worked_limits_hold.Goals as goal

pub returns : goal.returns
returns c = limits_are_worked

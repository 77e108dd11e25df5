use Rattle.time_bounds.proofs.TotalSteps.{totals_hold}
use Rattle.time_bounds.proofs.law.totals_hold.Goals as goal

pub returns : goal.returns
returns c = totals_hold

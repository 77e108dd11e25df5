use Rattle.signed_bounds.proofs.ReflexiveLaws.{bounds_are_within_themselves}
use Rattle.signed_bounds.proofs.laws.bounds_are_within_themselves.Goals as goal

pub returns : goal.returns
returns c = bounds_are_within_themselves

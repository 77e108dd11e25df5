use Rattle.signed_bounds.proofs.InputValues.{keeps_values}
use Rattle.signed_bounds.proofs.laws.signed_bounds_keep_values.Goals as goal

pub returns : goal.returns
returns c = keeps_values

use Rattle.signed_bounds.proofs.WorkedValues.{values, inputs, measures}
use Rattle.signed_bounds.proofs.worked.bounds_are_as_worked_out.Goals as goal

pub returns-clause-values : goal.returns-clause-values
returns-clause-values c = values

pub returns-clause-inputs : goal.returns-clause-inputs
returns-clause-inputs c = inputs

pub returns-clause-measures : goal.returns-clause-measures
returns-clause-measures c = measures

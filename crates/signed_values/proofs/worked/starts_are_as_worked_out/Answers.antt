use Rattle.signed_values.proofs.WorkedValues.{starts, compared}
use Rattle.signed_values.proofs.worked.starts_are_as_worked_out.Goals as goal

pub returns-clause-starts : goal.returns-clause-starts
returns-clause-starts c = starts

pub returns-clause-compared : goal.returns-clause-compared
returns-clause-compared c = compared

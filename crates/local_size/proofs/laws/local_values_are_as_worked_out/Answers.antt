use Rattle.local_size.proofs.WorkedLocals.{values-worked}
use Rattle.local_size.proofs.laws.local_values_are_as_worked_out.Goals as goal

pub returns : goal.returns
returns c = values-worked

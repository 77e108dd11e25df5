-- The worked values hold.
use Rattle.its_writer.proofs.WorkedValues.{worked_values}
use Rattle.its_writer.proofs.law.worked_values_hold.Goals as goal

pub returns : goal.returns
returns c = worked_values

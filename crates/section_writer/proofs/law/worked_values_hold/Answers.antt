use Rattle.section_writer.proofs.WorkedValues.{worked_values}
use Rattle.section_writer.proofs.law.worked_values_hold.Goals as goal

pub returns : goal.returns
returns c = worked_values

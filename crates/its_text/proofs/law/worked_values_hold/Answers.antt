-- The worked values of texts hold.
use Rattle.its_text.proofs.WorkedValues.{worked_values}
use Rattle.its_text.proofs.law.worked_values_hold.Goals as goal

pub returns : goal.returns
returns c = worked_values

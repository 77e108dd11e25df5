-- The worked values hold.
use Rattle.expr_text.proofs.WorkedValues.{worked_values}
use Rattle.expr_text.proofs.law.worked_values_hold.Goals as goal

pub returns : goal.returns
returns c = worked_values

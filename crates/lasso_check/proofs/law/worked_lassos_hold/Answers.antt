use Rattle.lasso_check.proofs.WorkedTexts.{lassos_worked}
use Rattle.lasso_check.proofs.law.worked_lassos_hold.Goals as goal

pub returns : goal.returns
returns c = lassos_worked

use Rattle.lasso_forms.proofs.WorkedFiles.{texts_worked, turns_worked}
use Rattle.lasso_forms.proofs.law.worked_files_hold.Goals as goal

pub returns : goal.returns
returns c = record {
  texts = texts_worked;
  turns = turns_worked c.worked_checks_hold.ensures c.worked_moving_hold.ensures.found;
}

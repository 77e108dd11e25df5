use Rattle.rule_forms.proofs.Worked.{worked}
use Rattle.rule_forms.proofs.bounding.local_forms_are_as_worked_out.Goals as goal

pub returns : goal.returns
returns c = worked

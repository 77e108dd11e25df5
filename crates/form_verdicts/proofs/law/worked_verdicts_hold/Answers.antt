use Rattle.form_verdicts.proofs.WorkedVerdicts.{verdicts_worked}
use Rattle.form_verdicts.proofs.law.worked_verdicts_hold.Goals as goal

pub returns : goal.returns
returns c = verdicts_worked c.files_are_answered.ensures

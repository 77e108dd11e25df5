use Rattle.proof_forms.proofs.Forms.{worked}
use Rattle.proof_forms.proofs.law.worked_forms_hold.Goals as goal

pub returns : goal.returns
returns c = worked

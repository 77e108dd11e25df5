use Rattle.claims_text.proofs.WorkedTexts.{worked_answers}
use Rattle.claims_text.proofs.law.worked_answers_hold.Goals as goal

pub returns : goal.returns
returns c = worked_answers

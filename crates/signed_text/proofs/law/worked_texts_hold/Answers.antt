use Rattle.signed_text.proofs.WorkedTexts.{worked_texts}
use Rattle.signed_text.proofs.law.worked_texts_hold.Goals as goal

pub returns : goal.returns
returns c = worked_texts

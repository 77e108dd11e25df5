use Rattle.check_text.proofs.WorkedTexts.{answers_are}
use Rattle.check_text.proofs.law.worked_texts_hold.Goals as goal

pub returns : goal.returns
returns c = answers_are

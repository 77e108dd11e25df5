use Rattle.while_answer.proofs.Decided.{while_texts_decided}
use Rattle.while_answer.proofs.law.while_texts_are_decided.Goals as goal

pub returns : goal.returns
returns c = while_texts_decided

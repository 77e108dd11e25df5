use Rattle.bound_text.proofs.TextAnswers.{texts_have_no_fault}
use Rattle.bound_text.proofs.reading.texts_have_no_fault.Goals as goal

pub returns : goal.returns
returns c = texts_have_no_fault

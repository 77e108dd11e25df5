-- The reader obeys the laws of readers.
use Rattle.its_text.proofs.ReaderLaws.{answers_all_texts}
use Rattle.its_text.proofs.law.texts_have_one_answer.Goals as goal

pub returns : goal.returns
returns c = answers_all_texts

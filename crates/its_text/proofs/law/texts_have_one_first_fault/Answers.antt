-- The kinds of faults differ in their numbers.
use Rattle.its_text.proofs.ReaderLaws.{one_first_fault}
use Rattle.its_text.proofs.law.texts_have_one_first_fault.Goals as goal

pub returns : goal.returns
returns c = one_first_fault

-- The sections of a text are determined, and so is their program.
use Rattle.its_text.proofs.ReaderLaws.{one_program}
use Rattle.its_text.proofs.law.one_program.Goals as goal

pub returns : goal.returns
returns c = one_program

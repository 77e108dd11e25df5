-- The words of a text are valid names, and its numbers are those that were read.
use Rattle.its_text.proofs.ValidPrograms.{spelled_valid}
use Rattle.its_text.proofs.law.spelled_programs_are_valid.Goals as goal

pub returns : goal.returns
returns c = record { each = spelled_valid }

-- The program is spellable, and each part of its text is within the limits.
use Rattle.its_writer.proofs.GeneratedWithin.{generated_spelled, generated_valid}
use Rattle.its_writer.proofs.GeneratedShort.{generated_short}
use Rattle.its_writer.proofs.law.generated_programs_are_spelled.Goals as goal

pub returns : goal.returns
returns c = record { within = generated_spelled; short = generated_short; valid = generated_valid }

use Rattle.while_front.proofs.ValidPrograms.{readable_are_valid}
use Rattle.while_front.proofs.law.readable_programs_are_valid.Goals as goal

pub returns : goal.returns
returns c = readable_are_valid

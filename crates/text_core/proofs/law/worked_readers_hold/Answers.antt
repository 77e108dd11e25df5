use Rattle.text_core.proofs.WorkedReaders.{worked_readers}
use Rattle.text_core.proofs.law.worked_readers_hold.Goals as goal

pub returns : goal.returns
returns c = worked_readers

use Rattle.model.proofs.RunLaws.{entry_once}
use Rattle.model.proofs.entry_occurs_once.Goals as goal

pub returns : goal.returns
returns c = entry_once

use Rattle.model.proofs.Entries.{entries_are_listed}
use Rattle.model.proofs.runs.entries_are_listed.Goals as goal

pub returns : goal.returns
returns c = entries_are_listed

use Rattle.model.proofs.WorkedFacts.{counted, times_hold, lengths_hold, sizes_hold}
use Rattle.model.proofs.worked_facts_hold.Goals as goal

pub returns : goal.returns
returns c = record { counting = counted; times = times_hold; lengths = lengths_hold; sizes = sizes_hold }

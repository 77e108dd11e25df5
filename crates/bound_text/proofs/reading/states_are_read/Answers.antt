use Rattle.bound_text.proofs.ReaderLaws.{states_are_read}
use Rattle.bound_text.proofs.reading.states_are_read.Goals as goal

pub returns : goal.returns
returns c = states_are_read

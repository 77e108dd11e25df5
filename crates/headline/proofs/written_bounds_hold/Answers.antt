-- The report is on the program that the file holds.
use Rattle.headline.proofs.Headline.{headline}
use Rattle.headline.proofs.written_bounds_hold.Goals as goal

pub returns : goal.returns
returns c = headline

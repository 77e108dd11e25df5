use Rattle.signed_bounds.proofs.WithinLaws.{within_holds}
use Rattle.signed_bounds.proofs.laws.within_holds.Goals as goal

pub returns : goal.returns
returns c = within_holds

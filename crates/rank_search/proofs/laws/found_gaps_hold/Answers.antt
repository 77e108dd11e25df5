use Rattle.rank_search.proofs.DualGaps.{gaps-found-hold}
use Rattle.rank_search.proofs.laws.found_gaps_hold.Goals as goal

pub returns : goal.returns
returns c = gaps-found-hold

use Rattle.rank_search.proofs.Accepted.{nodes-accepted}
use Rattle.rank_search.proofs.laws.ranked_nodes_are_accepted.Goals as goal

pub returns : goal.returns
returns c = nodes-accepted

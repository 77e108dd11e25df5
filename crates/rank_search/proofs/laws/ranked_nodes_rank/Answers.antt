use Rattle.rank_search.proofs.NodeLaws.{nodes-rank}
use Rattle.rank_search.proofs.laws.ranked_nodes_rank.Goals as goal

pub returns : goal.returns
returns c = nodes-rank

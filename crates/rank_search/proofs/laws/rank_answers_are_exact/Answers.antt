use Rattle.rank_search.proofs.RankExact.{answers-exact}
use Rattle.rank_search.proofs.laws.rank_answers_are_exact.Goals as goal

pub returns : goal.returns
returns c = answers-exact

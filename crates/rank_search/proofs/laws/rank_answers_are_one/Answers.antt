use Rattle.rank_search.proofs.Uniqueness.{ranks-one}
use Rattle.rank_search.proofs.laws.rank_answers_are_one.Goals as goal

pub returns : goal.returns
returns c = ranks-one

use Rattle.std.proofs.Common.{arith}
use Rattle.rank_search.proofs.goals.block_behind.Goals as goal

pub returns-clause-first : goal.returns-clause-first
returns-clause-first c = let e = c.max-start.ensures in omega (arith, e)

pub returns-clause-end : goal.returns-clause-end
returns-clause-end c = let e = c.max.ensures in omega (arith, e)

use Rattle.std.proofs.Common.{arith}
use Rattle.rank_search.proofs.BlockGoals.{source-first}
use Rattle.rank_search.proofs.goals.goals_of.Goals as goal

pub goals_in-requires-clause-blocks : goal.goals_in-requires-clause-blocks
goals_in-requires-clause-blocks c =
    source-first c.args.blocks.now c.args.coefficients.now c.requires.blocks c.args.source c.args.target
    c.block_of-own.result c.block_of-other.result c.block_of-own.ensures c.block_of-other.ensures
    (let l = c.if-own-other.true in omega (arith, l))

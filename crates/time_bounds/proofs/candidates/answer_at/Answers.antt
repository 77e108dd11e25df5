use Rattle.std.proofs.Common.{arith}
use Rattle.time_bounds.proofs.SideBoundLists.{answer_place, answer_read}
use Rattle.time_bounds.proofs.candidates.answer_at.Goals as goal

pub index-requires : goal.index-requires
index-requires c =
    let low = answer_place c.args.locals.now c.args.result_variable.rule c.args.result_variable.place c.requires.0 c.index-locals-result_variable.result c.requires.1
    c.index-locals-result_variable.is in
    omega (arith, low, c.index-locals-result_variable.result.ok.0)

pub returns : goal.returns
returns c =
    answer_read c.args.locals.now c.args.result_variable.rule c.args.result_variable.place c.requires.0 c.index.result.now c.index-locals-result_variable.result c.requires.1
    c.index-locals-result_variable.is c.index.ensures

use Rattle.std.proofs.Common.{arith}
use Rattle.std.proofs.lemmas.List.{length-map}
use Rattle.its_model.specs.Views.{step_of}
use Rattle.lasso_tests.proofs.turns.lasso_result.Goals as goal

-- a lasso file that is read has a value for each place of the start symbol, and a step in its turn
pub check_lasso-requires-clause-start : goal.check_lasso-requires-clause-start
check_lasso-requires-clause-start c = c.in-Ok-read_lasso.ensures.answer.within.start

pub check_lasso-requires-clause-turn : goal.check_lasso-requires-clause-turn
check_lasso-requires-clause-turn c =
    omega (arith, c.in-Ok-read_lasso.ensures.answer.within.nonempty, length-map c.in-Ok-read_lasso.file.turn.items step_of)

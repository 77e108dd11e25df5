use Rattle.std.proofs.Common.{arith}
use Rattle.std.proofs.lemmas.List.{length-map}
use Rattle.its_model.specs.Views.{step_of}
use Rattle.lasso_tests.proofs.moving.answer_moving.Goals as goal

-- a lasso file that is read has a value for each place of the start symbol, and a step in its turn
pub check_moving-requires-clause-start : goal.check_moving-requires-clause-start
check_moving-requires-clause-start c = c.in-Ok.ensures.text.within.start

pub check_moving-requires-clause-turn : goal.check_moving-requires-clause-turn
check_moving-requires-clause-turn c =
    omega (arith, c.in-Ok.ensures.text.within.nonempty, length-map c.in-Ok.file.turn.items step_of)

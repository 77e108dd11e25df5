use Rattle.its_model.specs.Views.{program_of}
use Rattle.lasso_check.specs.CheckAnswers.{HasTurned}
use Rattle.lasso_check.specs.Views.{lasso_of}
use Rattle.lasso_check.proofs.turning.walk_turn.Given as goal

-- the walk has taken the steps so far, and noted them
abbrev pub invariant-loop-i : goal.invariant-loop-i
invariant-loop-i l = HasTurned (program_of l.p) (lasso_of l.lasso) l.i l.turning

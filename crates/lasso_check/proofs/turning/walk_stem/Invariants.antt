use Rattle.its_model.specs.Views.{program_of}
use Rattle.lasso_check.specs.CheckAnswers.{HasTaken}
use Rattle.lasso_check.specs.Views.{lasso_of}
use Rattle.lasso_check.proofs.turning.walk_stem.Given as goal

-- the walk has taken the steps so far
abbrev pub invariant-loop-i : goal.invariant-loop-i
invariant-loop-i l = HasTaken (program_of l.p) (lasso_of l.lasso) l.i l.walk

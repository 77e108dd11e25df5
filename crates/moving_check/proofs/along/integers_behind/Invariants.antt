use Rattle.std.proofs.Common.{◌≡◌, None}
use Rattle.its_model.specs.Views.{program_of}
use Rattle.lasso_check.specs.CheckAnswers.{first_of_turn}
use Rattle.lasso_check.specs.Views.{lasso_of}
use Rattle.affine_turns.specs.Turns.{affine_after, first_stop_along}
use Rattle.moving_check.proofs.along.integers_behind.Given as goal

-- the steps so far pass the test, and these are the affine values after them
abbrev pub invariant-loop-i : goal.invariant-loop-i
invariant-loop-i l = record {
  none : first_stop_along (program_of l.p) l.env (first_of_turn (lasso_of l.lasso) l.i) ≡ None;
  same : l.places.items ≡ affine_after (program_of l.p) l.env (first_of_turn (lasso_of l.lasso) l.i);
}

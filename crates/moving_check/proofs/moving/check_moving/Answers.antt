use Rattle.its_model.specs.Views.{program_of}
use Rattle.lasso_check.specs.Views.{lasso_of}
use Rattle.moving_check.proofs.Verdicts.{found_only}
use Rattle.moving_check.proofs.moving.check_moving.Goals as goal

pub returns-clause-complete : goal.returns-clause-complete
returns-clause-complete c = λ v h.
    found_only c.lassos_have_one_verdict.ensures (program_of c.args.p.now) (lasso_of c.args.l.now) v h c.judge.result
    c.judge.ensures

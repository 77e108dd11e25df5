use Rattle.its_model.specs.Views.{program_of}
use Rattle.lasso_forms.specs.Views.{file_of}
use Rattle.lasso_forms.proofs.OneTurn.{turn_given, obstacle_given}
use Rattle.lasso_forms.proofs.checking.check_lasso_file.Goals as goal

pub returns-clause-repeats : goal.returns-clause-repeats
returns-clause-repeats c = λ t h.
    turn_given c.turns_are_decided.ensures (program_of c.args.p.now) (file_of c.args.file.now) t h c.judge.result
    c.judge.ensures

pub returns-clause-refuses : goal.returns-clause-refuses
returns-clause-refuses c = λ o h.
    obstacle_given c.turns_are_decided.ensures (program_of c.args.p.now) (file_of c.args.file.now) o h c.judge.result
    c.judge.ensures

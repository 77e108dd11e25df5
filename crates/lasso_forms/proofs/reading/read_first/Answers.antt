use Rattle.std.proofs.Common.{◌≡◌, None, ap}
use Rattle.its_model.specs.Views.{program_of}
use Rattle.run_replay.specs.Views.{refusal_in}
use Rattle.lasso_check.specs.Lassos.{Lasso}
use Rattle.lasso_check.specs.Views.{lasso_of}
use Rattle.lasso_forms.specs.Files.{LassoFile, FirstForm}
use Rattle.lasso_forms.proofs.FileTexts.{first_only, fault_of_first}
use Rattle.lasso_forms.proofs.reading.read_first.Goals as goal

pub returns-in-Ok-clause-complete : goal.returns-in-Ok-clause-complete
returns-in-Ok-clause-complete c =
    first_only (program_of c.args.p.now) c.args.bytes.now c.requires.form
    (λ (f : LassoFile). FirstForm (lasso_of c.in-Ok.lasso) ≡ f)
    (λ l h. ap (λ (x : Lasso). FirstForm x) (c.in-Ok.ensures.complete l h))

pub returns-in-Err-clause-answer : goal.returns-in-Err-clause-answer
returns-in-Err-clause-answer c =
    fault_of_first (program_of c.args.p.now) c.args.bytes.now c.in-Err.error c.requires.form c.in-Err.ensures.answer

pub returns-in-Err-clause-complete : goal.returns-in-Err-clause-complete
returns-in-Err-clause-complete c =
    first_only (program_of c.args.p.now) c.args.bytes.now c.requires.form
    (λ (f : LassoFile). refusal_in c.in-Err.error ≡ None) (λ l h. c.in-Err.ensures.complete l h)

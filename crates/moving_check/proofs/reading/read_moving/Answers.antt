use Rattle.std.proofs.Common.{◌≡◌, ℕ, List, sym, ◌∙◌, ap, subst}
use Rattle.its_model.specs.Views.{program_of}
use Rattle.lasso_check.specs.Spelled.{IsTextWithin}
use Rattle.lasso_check.specs.Views.{Answers}
use Rattle.moving_check.specs.Texts.{exchanged}
use Rattle.moving_check.proofs.Forms.{text_of_moving, read_text}
use Rattle.moving_check.proofs.reading.read_moving.Goals as goal

pub returns-clause-answer : goal.returns-clause-answer
returns-clause-answer c =
    let same = c.deref.ensures.value ∙ (c.exchange.ensures ∙ ap exchanged c.in-Ok.ensures.items) in
    subst (λ (bytes : List ℕ). Answers (program_of c.args.p.now) bytes c.read_lasso.result) same c.read_lasso.ensures.answer

pub returns-clause-text : goal.returns-clause-text
returns-clause-text c =
    let same = c.deref.ensures.value ∙ (c.exchange.ensures ∙ ap exchanged c.in-Ok.ensures.items) in
    read_text (program_of c.args.p.now) c.args.bytes.now c.read_lasso.result
    (subst (λ (bytes : List ℕ). Answers (program_of c.args.p.now) bytes c.read_lasso.result) same c.read_lasso.ensures.answer)

pub returns-clause-complete : goal.returns-clause-complete
returns-clause-complete c = λ l w.
    let same = c.deref.ensures.value ∙ (c.exchange.ensures ∙ ap exchanged c.in-Ok.ensures.items) in
    c.read_lasso.ensures.complete l
    (subst (λ (bytes : List ℕ). IsTextWithin (program_of c.args.p.now) bytes l) (sym same)
    (text_of_moving (program_of c.args.p.now) c.args.bytes.now l w))

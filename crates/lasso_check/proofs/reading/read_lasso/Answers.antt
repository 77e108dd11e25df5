use Rattle.its_model.specs.Views.{program_of}
use Rattle.text_grammar.proofs.ResultLaws.{agreeing_is_right, agreeing_yields}
use Rattle.run_replay.specs.Views.{refusal_in}
use Rattle.lasso_check.specs.Texts.{lassos_of}
use Rattle.lasso_check.specs.Spelled.{IsTextWithin}
use Rattle.lasso_check.specs.Views.{lasso_of}
use Rattle.lasso_check.proofs.LassoParts.{lassos_lawful}
use Rattle.lasso_check.proofs.LassoText.{parsed_written, written_parsed}
use Rattle.lasso_check.proofs.reading.read_lasso.Goals as goal

pub returns-clause-answer : goal.returns-clause-answer
returns-clause-answer c =
    let p = program_of c.args.p.now in
    agreeing_is_right (lassos_of p) lasso_of refusal_in (lassos_lawful p) (IsTextWithin p c.args.bytes.now) c.args.bytes.now
    (parsed_written p c.args.bytes.now) c.judge.result c.judge.ensures

pub returns-clause-complete : goal.returns-clause-complete
returns-clause-complete c = λ l w.
    let p = program_of c.args.p.now in
    agreeing_yields (lassos_of p) lasso_of refusal_in c.args.bytes.now l (written_parsed p c.args.bytes.now l w) c.judge.result
    c.judge.ensures

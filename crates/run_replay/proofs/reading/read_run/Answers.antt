use Rattle.its_model.specs.Views.{program_of}
use Rattle.text_grammar.proofs.ResultLaws.{agreeing_is_right, agreeing_yields}
use Rattle.run_replay.specs.Texts.{runs_of}
use Rattle.run_replay.specs.Spelled.{IsTextWithin}
use Rattle.run_replay.specs.Views.{run_of, refusal_in}
use Rattle.run_replay.proofs.RunParts.{runs_lawful}
use Rattle.run_replay.proofs.RunText.{parsed_written, written_parsed}
use Rattle.run_replay.proofs.reading.read_run.Goals as goal

pub returns-clause-answer : goal.returns-clause-answer
returns-clause-answer c =
    let p = program_of c.args.p.now in
    agreeing_is_right (runs_of p) run_of refusal_in (runs_lawful p) (IsTextWithin p c.args.bytes.now) c.args.bytes.now
    (parsed_written p c.args.bytes.now) c.judge.result c.judge.ensures

pub returns-clause-complete : goal.returns-clause-complete
returns-clause-complete c = λ r w.
    let p = program_of c.args.p.now in
    agreeing_yields (runs_of p) run_of refusal_in c.args.bytes.now r (written_parsed p c.args.bytes.now r w) c.judge.result
    c.judge.ensures

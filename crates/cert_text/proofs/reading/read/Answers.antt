use Rattle.its_model.specs.Views.{program_of}
use Rattle.cert_text.proofs.FileTexts.{agreeing_reads_back, text_stands}
use Rattle.cert_text.proofs.FilesBack.{agreeing_is_spelled}
use Rattle.cert_text.proofs.Judging.{agreeing_answers}
use Rattle.cert_text.proofs.States.{sure_of}
use Rattle.cert_text.proofs.reading.read.Goals as goal

pub returns-clause-answer : goal.returns-clause-answer
returns-clause-answer c = agreeing_answers (program_of c.args.p.now) c.args.bytes.now c.judge.result c.judge.ensures

pub returns-clause-complete : goal.returns-clause-complete
returns-clause-complete c = λ few f h.
    let p = program_of c.args.p.now in
    agreeing_reads_back p c.args.bytes.now f c.judge.result (text_stands p (sure_of p c.requires few) c.args.bytes.now f h)
    c.judge.ensures

pub returns-clause-spelled : goal.returns-clause-spelled
returns-clause-spelled c = λ few.
    let p = program_of c.args.p.now in
    agreeing_is_spelled p (sure_of p c.requires few) c.args.bytes.now c.judge.result c.judge.ensures

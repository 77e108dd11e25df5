use Rattle.its_model.specs.Views.{program_of}
use Rattle.section_text.proofs.Judging.{agreeing_answers}
use Rattle.section_text.proofs.reading.read_section.Goals as goal

pub returns : goal.returns
returns c = agreeing_answers (program_of c.args.program.now) c.args.bytes.now c.judge.result c.judge.ensures

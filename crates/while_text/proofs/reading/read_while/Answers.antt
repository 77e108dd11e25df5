use Rattle.while_text.proofs.Lawful.{agreeing_answers}
use Rattle.while_text.proofs.ReadablePrograms.{agreeing_is_readable}
use Rattle.while_text.proofs.reading.read_while.Goals as goal

pub returns-clause-answer : goal.returns-clause-answer
returns-clause-answer c = agreeing_answers c.args.bytes.now c.judge.result c.judge.ensures

pub returns-clause-readable : goal.returns-clause-readable
returns-clause-readable c = agreeing_is_readable c.args.bytes.now c.judge.result c.judge.ensures

use Rattle.std.proofs.Common.{map}
use Rattle.text_core.specs.Names.{name_of}
use Rattle.bound_text.proofs.TextAnswers.{says_answers, says_gives_back}
use Rattle.bound_text.proofs.reading.read.Goals as goal

pub returns-clause-answer : goal.returns-clause-answer
returns-clause-answer c = says_answers (map name_of c.args.names.now) c.args.bytes.now c.judge.result c.judge.ensures

pub returns-clause-complete : goal.returns-clause-complete
returns-clause-complete c = λ b t. says_gives_back (map name_of c.args.names.now) c.args.bytes.now c.judge.result b c.requires c.judge.ensures t

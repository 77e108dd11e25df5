use Rattle.text_grammar.proofs.WorkedGrammars.{worked_grammars}
use Rattle.text_grammar.proofs.law.worked_grammars_hold.Goals as goal

pub returns : goal.returns
returns c = worked_grammars

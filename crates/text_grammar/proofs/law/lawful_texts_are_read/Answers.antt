use Rattle.text_grammar.proofs.WorkedGrammars.{texts_read}
use Rattle.text_grammar.proofs.law.lawful_texts_are_read.Goals as goal

pub returns : goal.returns
returns g c = texts_read _ c.requires

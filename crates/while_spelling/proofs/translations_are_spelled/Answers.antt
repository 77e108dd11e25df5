-- Each translation can be spelled.
use Rattle.while_spelling.proofs.Spelled.{translations_spelled}
use Rattle.while_spelling.proofs.translations_are_spelled.Goals as goal

pub returns : goal.returns
returns c = translations_spelled

use Rattle.cert_lexer.proofs.BoundTexts.{answered_spelled}
use Rattle.cert_lexer.proofs.law.bounds_are_spelled.Goals as goal

pub returns : goal.returns
returns c = record { each = answered_spelled }

use Rattle.cert_lexer.proofs.BoundTexts.{bound_stands}
use Rattle.cert_lexer.proofs.law.bounds_are_answered.Goals as goal

pub returns : goal.returns
returns c = record { each = bound_stands }

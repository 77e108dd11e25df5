use Rattle.cert_lexer.proofs.WorkedBounds.{bounds_worked_out}
use Rattle.cert_lexer.proofs.law.worked_bounds_hold.Goals as goal

pub returns : goal.returns
returns c = bounds_worked_out

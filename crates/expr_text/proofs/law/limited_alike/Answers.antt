-- A power with an exponent over the limit has the same fault as one with the limit plus one.
use Rattle.expr_text.proofs.LimitedFaults.{limited_alike}
use Rattle.expr_text.proofs.law.limited_alike.Goals as goal

pub returns : goal.returns
returns c = limited_alike

use Rattle.moving_check.proofs.Verdicts.{one_verdict}
use Rattle.moving_check.proofs.law.lassos_have_one_verdict.Goals as goal

pub returns : goal.returns
returns c = one_verdict c.replays_are_decided.ensures

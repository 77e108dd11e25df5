use Rattle.lasso_check.proofs.Verdicts.{one_verdict}
use Rattle.lasso_check.proofs.checking_law.lassos_have_one_verdict.Goals as goal

pub returns : goal.returns
returns c = one_verdict c.replays_are_decided.ensures

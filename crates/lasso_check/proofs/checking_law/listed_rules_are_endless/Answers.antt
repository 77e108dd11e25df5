use Rattle.lasso_check.proofs.Endlessness.{listed_endless}
use Rattle.lasso_check.proofs.checking_law.listed_rules_are_endless.Goals as goal

pub returns : goal.returns
returns c =
    listed_endless c.lassos_are_endless.ensures.endless c.lassos_are_endless.ensures.no_time
    c.lassos_are_endless.ensures.no_total

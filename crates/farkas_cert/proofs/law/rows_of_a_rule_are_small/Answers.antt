use Rattle.farkas_cert.proofs.Sums.{rows_of_a_rule}
use Rattle.farkas_cert.proofs.law.rows_of_a_rule_are_small.Goals as goal

pub returns : goal.returns
returns c = rows_of_a_rule

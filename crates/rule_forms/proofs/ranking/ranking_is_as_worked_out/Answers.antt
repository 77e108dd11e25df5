use Rattle.rule_forms.proofs.WorkedRanks.{worked}
use Rattle.rule_forms.proofs.ranking.ranking_is_as_worked_out.Goals as goal

pub returns : goal.returns
returns c = worked

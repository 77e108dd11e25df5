use Rattle.rule_forms.proofs.LeastRanks.{least-rank}
use Rattle.rule_forms.proofs.ranking.least_ranks_weigh_least.Goals as goal

pub returns : goal.returns
returns c = record { each = least-rank }

use Rattle.rule_forms.proofs.RankExclusion.{dual-excludes_ranks}
use Rattle.rule_forms.proofs.ranking.duals_exclude_ranks.Goals as goal

pub returns : goal.returns
returns c = record { each = dual-excludes_ranks }

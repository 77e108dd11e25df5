use Rattle.rule_forms.proofs.RankFits.{function-fits}
use Rattle.rule_forms.proofs.RankSolutions.{rank-shown, shown-ranks}
use Rattle.rule_forms.proofs.ranking.solutions_rank.Goals as goal

pub returns : goal.returns
returns c = record { shown = rank-shown; fits = function-fits; ranks = shown-ranks }

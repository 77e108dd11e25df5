use Rattle.lasso_forms.proofs.OneTurn.{turns_decided}
use Rattle.lasso_forms.proofs.law.turns_are_decided.Goals as goal

pub returns : goal.returns
returns c = turns_decided c.replays_are_decided.ensures

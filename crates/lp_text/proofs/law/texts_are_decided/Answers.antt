use Rattle.lp_text.proofs.LpDecided.{texts_decided}
use Rattle.lp_text.proofs.law.texts_are_decided.Goals as goal

pub returns : goal.returns
returns c = texts_decided

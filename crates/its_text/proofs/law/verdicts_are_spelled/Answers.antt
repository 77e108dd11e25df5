-- A text is read as a program exactly if it spells it within the limits.
use Rattle.its_text.proofs.SpelledVerdicts.{verdicts_are_spelled}
use Rattle.its_text.proofs.law.verdicts_are_spelled.Goals as goal

pub returns : goal.returns
returns c = verdicts_are_spelled

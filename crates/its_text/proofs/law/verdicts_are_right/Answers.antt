-- The reader's answer is right.
use Rattle.its_text.proofs.VerdictLaws.{verdicts_are_right}
use Rattle.its_text.proofs.law.verdicts_are_right.Goals as goal

pub returns : goal.returns
returns c = verdicts_are_right

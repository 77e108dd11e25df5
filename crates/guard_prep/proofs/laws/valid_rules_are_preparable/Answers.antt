use Rattle.guard_prep.proofs.StepLaws.{rules-are-preparable}
use Rattle.guard_prep.proofs.laws.valid_rules_are_preparable.Goals as goal

pub returns : goal.returns
returns c = rules-are-preparable

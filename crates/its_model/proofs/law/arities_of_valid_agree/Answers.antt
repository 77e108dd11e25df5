use Rattle.its_model.proofs.ValidLaws.{arities_agree}
use Rattle.its_model.proofs.law.arities_of_valid_agree.Goals as goal

pub returns : goal.returns
returns c = arities_agree

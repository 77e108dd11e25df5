use Rattle.affine_constants.proofs.Constants.{natural_constants_natural}
use Rattle.affine_constants.proofs.law.natural_constants_are_natural.Goals as goal

pub returns : goal.returns
returns c = natural_constants_natural

use Rattle.lasso_check.proofs.LassosApart.{one_lasso}
use Rattle.lasso_check.proofs.law.texts_are_of_one_lasso.Goals as goal

pub returns : goal.returns
returns c = one_lasso

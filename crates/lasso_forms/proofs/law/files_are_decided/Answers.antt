use Rattle.lasso_forms.proofs.FileTexts.{files_decided}
use Rattle.lasso_forms.proofs.law.files_are_decided.Goals as goal

pub returns : goal.returns
returns c = files_decided

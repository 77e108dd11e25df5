use Rattle.poly_terms.proofs.WorkedForms.{forms-are-worked-out}
use Rattle.poly_terms.proofs.law.forms_are_worked_out.Goals as goal

pub returns : goal.returns
returns c = forms-are-worked-out

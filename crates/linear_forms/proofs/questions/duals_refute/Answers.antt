use Rattle.linear_forms.proofs.ElementLaws.{dual-refutes}
use Rattle.linear_forms.proofs.questions.duals_refute.Goals as goal

pub returns : goal.returns
returns c = record { each = dual-refutes }

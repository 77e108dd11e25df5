use Rattle.linear_forms.proofs.RefutationLaws.{refuted-has_none}
use Rattle.linear_forms.proofs.questions.refuted_has_none.Goals as goal

pub returns : goal.returns
returns c = record { each = refuted-has_none }

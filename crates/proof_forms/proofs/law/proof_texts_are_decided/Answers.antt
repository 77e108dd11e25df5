use Rattle.proof_forms.proofs.Decided.{decided}
use Rattle.proof_forms.proofs.law.proof_texts_are_decided.Goals as goal

pub returns : goal.returns
returns c = decided c.refined_texts_are_decided.ensures

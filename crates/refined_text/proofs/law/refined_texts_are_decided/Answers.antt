use Rattle.refined_text.proofs.Decided.{decided}
use Rattle.refined_text.proofs.law.refined_texts_are_decided.Goals as goal

pub returns : goal.returns
returns c = decided c.parts_are_unique.ensures c.first_faults_are_unique.ensures

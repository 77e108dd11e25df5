use Rattle.facts_certs.proofs.RefinedLaws.{sections_refine_strengthened}
use Rattle.facts_certs.proofs.law.sections_refine_strengthened.Goals as goal

pub returns : goal.returns
returns c = sections_refine_strengthened

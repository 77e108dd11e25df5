use Rattle.program_claims.proofs.ListLaws as lemmas
use Rattle.program_claims.proofs.refused_claims_are_first.Goals as goal

pub returns : goal.returns
returns c = lemmas.refused_are_first

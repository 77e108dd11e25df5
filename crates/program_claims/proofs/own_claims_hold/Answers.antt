use Rattle.program_claims.proofs.AcceptedLaws as lemmas
use Rattle.program_claims.proofs.own_claims_hold.Goals as goal

pub returns : goal.returns
returns c = lemmas.own_claims_hold c.within_holds.ensures c.squares_are_safe.ensures.safe

-- The texts of a lemma about potentials and of a claim that aren't accepted.
use Rattle.std.specs.Prelude.{ℕ, List, ◌++◌, codes, decimal}
use Rattle.potential_types.specs.potential_nodes.Checks.{Reason, BadShape, MissingTime, BadMove, BadFloor, BadAmount}
use Rattle.potential_types.specs.potential_nodes.Checks.{BadGain, LowBound}
use Rattle.claim_types.specs.program_claims.Verdicts as verdicts
use Rattle.claim_types.specs.program_claims.Verdicts.{ClaimReason}

-- why a lemma about potentials isn't accepted
abbrev pub lemma_reason : Reason → List ℕ
lemma_reason BadShape = codes "shape"
lemma_reason (MissingTime rule) = codes "missing move " ++ decimal rule
lemma_reason (BadMove rule) = codes "move " ++ decimal rule
lemma_reason (BadFloor rule) = codes "floor " ++ decimal rule
lemma_reason (BadAmount rule) = codes "amount " ++ decimal rule
lemma_reason (BadGain rule) = codes "gain " ++ decimal rule
lemma_reason LowBound = codes "bound"

-- the first lemma about potentials that isn't accepted, counted from 1 among these lemmas, and why
abbrev pub refused_lemma_text : ℕ → Reason → List ℕ
refused_lemma_text number reason =
    codes "no lemma " ++ (decimal number ++ (codes ": " ++ (lemma_reason reason ++ codes "\n")))

-- why a claim isn't accepted
abbrev pub claim_reason : ClaimReason → List ℕ
claim_reason verdicts.NoRule = codes "rule"
claim_reason verdicts.NoCost = codes "cost"
claim_reason verdicts.NoPlace = codes "place"
claim_reason verdicts.NoCopy = codes "copy"
claim_reason verdicts.NoFact = codes "fact"
claim_reason verdicts.BadLemma = codes "lemma"
claim_reason verdicts.LowBound = codes "bound"

-- the first claim that isn't accepted, counted from 1, and why
abbrev pub refused_claim_text : ℕ → ClaimReason → List ℕ
refused_claim_text number reason =
    codes "no claim " ++ (decimal number ++ (codes ": " ++ (claim_reason reason ++ codes "\n")))

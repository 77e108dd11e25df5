use Rattle.std.proofs.Common.{◌≡◌, ◌++◌, drop}
use Rattle.claim_types.specs.Views.{claims_of}
use Rattle.potential_writer.specs.Claims.{claim_lines}
use Rattle.potential_writer.proofs.claims.push_claims.Given as goal

-- the text so far and that of the remaining claims are the whole text
abbrev pub invariant-loop-claim : goal.invariant-loop-claim
invariant-loop-claim l =
    l.text.items ++ claim_lines (claims_of (drop l.claim-index l.claims))
    ≡ l.initial.text.items ++ claim_lines (claims_of l.claims)

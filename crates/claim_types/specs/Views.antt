-- Claims of the code as plain data.
use Rattle.std.specs.Prelude.{List, map}
use Rattle.poly_terms.specs.Views.{term_of}
use Rattle.signed_bounds.specs.Views.{signed_of}
use Rattle.program_claims.specs.Claims as claims
use Rattle.claim_types.specs.declared.claim.Support.{Support}
use Rattle.claim_types.specs.declared.claim.Support.TheVariants.{ByOne, ByEach}
use Rattle.claim_types.specs.declared.claim.Claim.{Claim}
use Rattle.claim_types.specs.declared.claim.Claim.TheVariants.{OnTime, OnCost, OnTotal, OnAbove, OnBelow, OnSymbol}

-- the facts that are cited
abbrev pub support_of : Support → claims.Support
support_of (ByOne n) = claims.ByOne n
support_of (ByEach ns bound) = claims.ByEach ns.items (signed_of bound)

-- a claim, and claims in order
abbrev pub claim_of : Claim → claims.Claim
claim_of (OnTime t by) = claims.OnTime t (support_of by)
claim_of (OnCost t by) = claims.OnCost t (support_of by)
claim_of (OnTotal by) = claims.OnTotal (support_of by)
claim_of (OnAbove t i ns bound) = claims.OnAbove t i ns.items (signed_of bound)
claim_of (OnBelow t i ns bound) = claims.OnBelow t i ns.items (signed_of bound)
claim_of (OnSymbol s e) = claims.OnSymbol s (term_of e)

abbrev pub claims_of : List Claim → List claims.Claim
claims_of claims = map claim_of claims

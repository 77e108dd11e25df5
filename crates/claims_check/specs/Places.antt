-- Claims on places, and why they aren't accepted.
use Rattle.std.specs.Prelude.{ℕ, if◌then◌else◌, List, Option, Some, None}
use Rattle.model.specs.Polynomials.{Polynomial}
use Rattle.signed_bounds.specs.Bounds.{Signed}
use Rattle.signed_bounds.specs.Views.{signed_of}
use Rattle.program_claims.specs.Copies.{copies_of}
use Rattle.program_claims.specs.Evidence.{Evidence}
use Rattle.program_claims.specs.Heads.{are_heads_there}
use Rattle.program_claims.specs.Verdicts.{ClaimReason}
use Rattle.program_claims.specs.Acceptance.{are_copies_within, head_reason}
use Rattle.claims_check.specs.declared.stating.PlaceClaim as code

-- a rule, a place, the numbers of facts and a bound
pub record PlaceClaim : Type 0 where
  pub rule : ℕ
  pub place : ℕ
  pub numbers : List ℕ
  pub bound : Signed

abbrev pub plain_place_claim : code.PlaceClaim → PlaceClaim
plain_place_claim c = record { rule = c.rule; place = c.place; numbers = c.numbers.now; bound = signed_of c.bound.now }

-- why the facts don't bound a form at the copies of the rule by at most the bound; none where they do
abbrev pub place_reason : Evidence → PlaceClaim → Polynomial → Option ClaimReason
place_reason e c form =
    if are_copies_within e c.rule c.place c.numbers c.bound form then None
    else Some (head_reason (are_heads_there e.facts form c.place (copies_of e.above e.projection c.rule) c.numbers))

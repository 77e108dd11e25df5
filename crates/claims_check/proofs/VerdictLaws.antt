-- Verdicts of claims.
use Rattle.std.proofs.Common.{◌≡◌, ℕ, zero, suc, Bool, true, false, cond, Option, Some, None, refl, sym}
use Rattle.std.proofs.Common.{ap, subst}
use Rattle.model.specs.Programs.{Rule}
use Rattle.model.specs.Polynomials.{Polynomial}
use Rattle.potential_nodes.specs.Lookup.{numbered}
use Rattle.program_claims.specs.Claims.{Stated}
use Rattle.program_claims.specs.Copies.{copies_of, update_at}
use Rattle.program_claims.specs.Evidence.{Evidence}
use Rattle.program_claims.specs.Heads.{are_heads_there}
use Rattle.program_claims.specs.Verdicts.{Verdict, Accepted, Refused, ClaimReason, verdict_map}
use Rattle.program_claims.specs.Acceptance.{are_copies_within, copies_stated, head_reason}
use Rattle.claims_check.specs.Views.{IsRefusal}
use Rattle.claims_check.specs.Places.{PlaceClaim, place_reason}
use Rattle.claims_check.specs.declared.reason.ClaimFault.{ClaimFault}
use Rattle.claims_check.specs.declared.reason.ClaimFault.TheVariants as faults

-- a refusal of one verdict is one of an equal one, and of what is made of it
pub refusal-of : {A : Type 0} (v w : Verdict A) (fault : ClaimFault) → v ≡ w → IsRefusal w fault → IsRefusal v fault
refusal-of v w fault e h = subst (λ (u : Verdict _). IsRefusal u fault) (sym e) h

pub refusal-map : {A B : Type 0} (f : A → B) (v : Verdict A) (fault : ClaimFault) → IsRefusal v fault
    → IsRefusal (verdict_map f v) fault
refusal-map f v (faults.Refused reason) h = ap (verdict_map f) h
refusal-map f v faults.Memory h = tt

-- a verdict by a reason, where there is one
abbrev by-reason : Stated → Option ClaimReason → Verdict Stated
by-reason s None = Accepted s
by-reason s (Some r) = Refused r

-- a claim on a place is accepted where there is no reason, and else refused for it
pub place-accepted : (e : Evidence) (c : PlaceClaim) (form : Polynomial) (s : Stated) → place_reason e c form ≡ None
    → copies_stated e c.rule c.place c.numbers c.bound form s ≡ Accepted s
place-accepted e c form s = go (are_copies_within e c.rule c.place c.numbers c.bound form) where
  go : (v : Bool)
      → cond v None (Some (head_reason (are_heads_there e.facts form c.place
      (copies_of e.above e.projection c.rule) c.numbers))) ≡ None
      → cond v (Accepted s) (Refused (head_reason (are_heads_there e.facts form c.place
      (copies_of e.above e.projection c.rule) c.numbers)))
      ≡ Accepted s
  go true h = refl
  go false h = cc

pub place-refused : (e : Evidence) (c : PlaceClaim) (form : Polynomial) (s : Stated) (r : ClaimReason)
    → place_reason e c form ≡ Some r → copies_stated e c.rule c.place c.numbers c.bound form s ≡ Refused r
place-refused e c form s r = go (are_copies_within e c.rule c.place c.numbers c.bound form) where
  go : (v : Bool)
      → cond v None (Some (head_reason (are_heads_there e.facts form c.place
      (copies_of e.above e.projection c.rule) c.numbers))) ≡ Some r
      → cond v (Accepted s) (Refused (head_reason (are_heads_there e.facts form c.place
      (copies_of e.above e.projection c.rule) c.numbers)))
      ≡ Refused r
  go true h = cc
  go false h = ap (λ (o : Option ClaimReason). by-reason s o) h

-- the update of a place of a rule that is there is that with its number
pub update-numbered : (r : Rule) (n : ℕ) → update_at (Some r) n ≡ numbered r.updates n
update-numbered r zero = refl
update-numbered r (suc n) = refl

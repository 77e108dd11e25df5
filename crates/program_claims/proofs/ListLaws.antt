-- The first claim of a list that isn't accepted.
use Rattle.std.proofs.Common.{◌≡◌, ℕ, suc, List, [], ◌∷◌, map, Some, None, refl, ap, ◌∙◌}
use Rattle.std.proofs.Common.{arith}
use Rattle.model.proofs.Cases.{none_some, some_none, some_same}
use Rattle.program_claims.specs.Claims.{Claim, Stated}
use Rattle.program_claims.specs.Evidence.{Evidence}
use Rattle.program_claims.specs.Verdicts.{Verdict, Accepted, Refused}
use Rattle.program_claims.specs.Acceptance.{ClaimRefusal, stated_by, refused_or, first_refused, with_stated, all_stated}
use Rattle.program_claims.specs.Laws.{IsFirstRefused, RefusedClaimsAreFirst}

-- the verdict that a refusal has
abbrev refusal_of : ClaimRefusal → Verdict Stated
refusal_of r = Refused r.reason

module _ (e : Evidence) where
  none-refused : (k : ℕ) (claims : List Claim) → first_refused e k claims ≡ None
      → map (stated_by e) claims ≡ map Accepted (all_stated e claims)
  none-refused k [] h = refl
  none-refused k (claim ∷ claims) h = go (stated_by e claim) refl h (λ i. none-refused (suc k) claims i)
    where
      go : (v : Verdict Stated) → stated_by e claim ≡ v → refused_or k v (first_refused e (suc k) claims) ≡ None
          → (first_refused e (suc k) claims ≡ None → map (stated_by e) claims ≡ map Accepted (all_stated e claims))
          → map (stated_by e) (claim ∷ claims) ≡ map Accepted (with_stated v (all_stated e claims))
      go (Refused reason) i h' ih =
          let here : ClaimRefusal = record { number = k; reason = reason } in absurd (some_none here h')
      go (Accepted s) i h' ih =
          ap (λ (y : Verdict Stated). y ∷ map (stated_by e) claims) i
          ∙ ap (λ (ys : List (Verdict Stated)). Accepted s ∷ ys) (ih h')

  first-is : (k : ℕ) (claims : List Claim) (r : ClaimRefusal) → first_refused e k claims ≡ Some r
      → IsFirstRefused e k claims r
  first-is k [] r h = absurd (none_some r h)
  first-is k (claim ∷ claims) r h = go (stated_by e claim) refl h (λ i. first-is (suc k) claims r i)
    where
      go : (v : Verdict Stated) → stated_by e claim ≡ v → refused_or k v (first_refused e (suc k) claims) ≡ Some r
          → (first_refused e (suc k) claims ≡ Some r → IsFirstRefused e (suc k) claims r)
          → IsFirstRefused e k (claim ∷ claims) r
      go (Refused reason) i h' ih =
          let here : ClaimRefusal = record { number = k; reason = reason } in
          let same : here ≡ r = some_same here r h' in
          let number = ap (λ (x : ClaimRefusal). x.number) same in
          record {
            before = [];
            refused = claim;
            after = claims;
            listed = refl;
            number = omega (arith, number);
            accepted = refl;
            reason = i ∙ ap refusal_of same;
          }
      go (Accepted s) i h' ih =
          let later = ih h' in
          let number = later.number in
          record {
            before = claim ∷ later.before;
            refused = later.refused;
            after = later.after;
            listed = ap (λ (xs : List Claim). claim ∷ xs) later.listed;
            number = omega (arith, number);
            accepted =
                ap (λ (v : Verdict Stated). refused_or k v (first_refused e (suc k) later.before)) i ∙ later.accepted;
            reason = later.reason;
          }

pub refused_are_first : RefusedClaimsAreFirst
refused_are_first = record { none = none-refused; some = first-is }

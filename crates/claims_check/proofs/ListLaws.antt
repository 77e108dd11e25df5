-- Claims of a list from a position on.
use Rattle.std.proofs.Common.{◌≡◌, ◌+◌, ◌<◌, ◌≤◌, ◌++◌, ◌∙◌, ℕ, List, [], ◌∷◌, length, map, get_or, drop, Option}
use Rattle.std.proofs.Common.{Some, None}
use Rattle.std.proofs.Common.{sym, ap, add-one, append_assoc}
use Rattle.std.proofs.lemmas.List.{drop_all, map-append, append-nil}
use Rattle.program_claims.specs.Claims as claims
use Rattle.program_claims.specs.Evidence.{Evidence}
use Rattle.program_claims.specs.Verdicts.{Verdict, Accepted, Refused, ClaimReason}
use Rattle.program_claims.specs.Acceptance.{ClaimRefusal, stated_by, refused_or, first_refused, with_stated, all_stated}
use Rattle.claim_types.specs.declared.claim.Claim.{Claim}
use Rattle.claim_types.specs.Views.{claim_of, claims_of}
use Rattle.claims_check.specs.declared.statement.Statement.{Statement}
use Rattle.claims_check.specs.declared.reason.ClaimFault.{ClaimFault}
use Rattle.claims_check.specs.declared.reason.ClaimFault.TheVariants as faults
use Rattle.claims_check.specs.Views.{stated_of, reason_of, error_of, IsRefusal, AreRefused}
use Rattle.claims_check.proofs.PositionLaws.{drop-item}

-- a refusal
abbrev refusal-at : ClaimReason → ℕ → Option ClaimRefusal
refusal-at reason n = Some (record { number = n; reason = reason })

module _ (e : Evidence) (cs : List Claim) (i : ℕ) where
  -- the claim at a position, and those behind it
  refused-pair : (c : Claim) → i < length cs → c ≡ get_or cs i c
      → first_refused e (i + 1) (claims_of (drop i cs))
      ≡ refused_or (i + 1) (stated_by e (claim_of c)) (first_refused e (i + 1 + 1) (claims_of (drop (i + 1) cs)))
  refused-pair c low h =
      ap (λ (ds : List Claim). first_refused e (i + 1) (claims_of ds)) (drop-item cs i c low h)
      ∙ ap (λ (t : ℕ). refused_or (i + 1) (stated_by e (claim_of c)) (first_refused e t (claims_of (drop (i + 1) cs))))
      (sym (add-one (i + 1)))

  -- an accepted claim is passed
  pub claim-passed : (c : Claim) (s : claims.Stated) (all : Option ClaimRefusal) → i < length cs → c ≡ get_or cs i c
      → stated_by e (claim_of c) ≡ Accepted s → first_refused e (i + 1) (claims_of (drop i cs)) ≡ all
      → first_refused e (i + 1 + 1) (claims_of (drop (i + 1) cs)) ≡ all
  claim-passed c s all low h a k =
      ap (λ (v : Verdict claims.Stated). refused_or (i + 1) v (first_refused e (i + 1 + 1) (claims_of (drop
      (i + 1) cs)))) (sym a)
      ∙ (sym (refused-pair c low h) ∙ k)

  -- a refused one is found
  pub claim-found : (c : Claim) (r : ClaimReason) (all : Option ClaimRefusal) → i < length cs → c ≡ get_or cs i c
      → stated_by e (claim_of c) ≡ Refused r → first_refused e (i + 1) (claims_of (drop i cs)) ≡ all
      → all ≡ Some (record { number = i + 1; reason = r })
  claim-found c r all low h a k =
      sym k
      ∙ (refused-pair c low h
      ∙ ap (λ (v : Verdict claims.Stated). refused_or (i + 1) v (first_refused e (i + 1 + 1) (claims_of (drop
      (i + 1) cs)))) a)

  -- its error is that of the list
  pub claim-error : (c : Claim) (fault : ClaimFault) → i < length cs → c ≡ get_or cs i c
      → IsRefusal (stated_by e (claim_of c)) fault
      → first_refused e (i + 1) (claims_of (drop i cs)) ≡ first_refused e 1 (claims_of cs)
      → AreRefused e (claims_of cs) (error_of i fault)
  claim-error c (faults.Refused reason) low h r k =
      claim-found c (reason_of reason) (first_refused e 1 (claims_of cs)) low h r k
      ∙ ap (refusal-at (reason_of reason)) (add-one i)
  claim-error c faults.Memory low h r k = tt

  -- or there is none
  pub claim-none : (all : Option ClaimRefusal) → length cs ≤ i
      → first_refused e (i + 1) (claims_of (drop i cs)) ≡ all → all ≡ None
  claim-none all low k = sym k ∙ ap (λ (ds : List Claim). first_refused e (i + 1) (claims_of ds)) (drop_all i cs low)

  -- what is stated so far, and one statement more
  pub stated-passed : (c : Claim) (one : Statement) (old new : List Statement) (all : List claims.Stated)
      → i < length cs
      → c ≡ get_or cs i c → stated_by e (claim_of c) ≡ Accepted (stated_of one) → new ≡ old ++ one ∷ []
      → map stated_of old ++ all_stated e (claims_of (drop i cs)) ≡ all
      → map stated_of new ++ all_stated e (claims_of (drop (i + 1) cs)) ≡ all
  stated-passed c one old new all low h a n k =
      ap (λ (ss : List Statement). map stated_of ss ++ all_stated e (claims_of (drop (i + 1) cs))) n
      ∙ (ap (λ (ss : List claims.Stated). ss ++ all_stated e (claims_of (drop (i + 1) cs))) (map-append stated_of old
      (one ∷ []))
      ∙ (append_assoc (map stated_of old) (stated_of one ∷ []) (all_stated e (claims_of (drop (i + 1) cs)))
      ∙ (ap (λ (v : Verdict claims.Stated). map stated_of old
      ++ with_stated v (all_stated e (claims_of (drop (i + 1) cs)))) (sym a)
      ∙ (ap (λ (ds : List Claim). map stated_of old ++ all_stated e (claims_of ds)) (sym (drop-item cs i c low h))
      ∙ k))))

  pub stated-done : (found : List Statement) (all : List claims.Stated) → length cs ≤ i
      → map stated_of found ++ all_stated e (claims_of (drop i cs)) ≡ all → map stated_of found ≡ all
  stated-done found all low k =
      sym (append-nil (map stated_of found))
      ∙ (ap (λ (ds : List Claim). map stated_of found ++ all_stated e (claims_of ds)) (sym (drop_all i cs low)) ∙ k)

-- Claims that are appended.
use Rattle.std.proofs.Common.{◌≡◌, ℕ, suc, ◌+◌, ◌<◌, List, [], ◌∷◌, ◌++◌, map, length, drop, get_or, sym, ◌∙◌, ap, arith}
use Rattle.std.specs.List.{flat_map}
use Rattle.std.proofs.lemmas.Grind.{flat_map-append}
use Rattle.std.proofs.lemmas.List.{append-nil, append_assoc, at_drop_more, map-append}
use Rattle.program_claims.specs.Claims.{Claim, Stated}
use Rattle.claim_types.specs.declared.claim.Claim as code
use Rattle.claim_types.specs.Views.{claim_of, claims_of}
use Rattle.facts_proof.specs.Statements.{each_numbered}
use Rattle.facts_proof.specs.Entries.{own_statements, claimed}

-- two lists of claims, joined, claim what both lists do
claimed-both : (cs ds : List code.Claim) → claimed (cs ++ ds) ≡ claimed cs ++ claimed ds
claimed-both cs ds =
    ap (λ (xs : List Claim). flat_map own_statements xs) (map-append claim_of cs ds)
    ∙ flat_map-append own_statements (claims_of cs) (claims_of ds)

-- one claim claims what is its own
claimed-own : (c : code.Claim) → claimed (c ∷ []) ≡ own_statements (claim_of c)
claimed-own c = append-nil (own_statements (claim_of c))

-- one more claim
pub claimed_one : (old new : List code.Claim) (c : code.Claim) (s : Stated) → own_statements (claim_of c) ≡ s ∷ []
    → new ≡ old ++ c ∷ [] → claimed new ≡ claimed old ++ s ∷ []
claimed_one old new c s own pushed =
    ap claimed pushed
    ∙ (claimed-both old (c ∷ [])
    ∙ ap (λ (ss : List Stated). claimed old ++ ss) (claimed-own c ∙ own))

-- two more claims
pub claimed_two : (old one new : List code.Claim) (c d : code.Claim) (s t : Stated)
    → own_statements (claim_of c) ≡ s ∷ [] → own_statements (claim_of d) ≡ t ∷ []
    → one ≡ old ++ c ∷ [] → new ≡ one ++ d ∷ [] → claimed new ≡ claimed old ++ s ∷ t ∷ []
claimed_two old one new c d s t own own' first second =
    claimed_one one new d t own' second
    ∙ (ap (λ (ss : List Stated). ss ++ t ∷ []) (claimed_one old one c s own first)
    ∙ append_assoc (claimed old) (s ∷ []) (t ∷ []))

-- no more claims
pub claimed_none : (old : List code.Claim) → claimed old ≡ claimed old ++ []
claimed_none old = sym (append-nil (claimed old))

-- the claims of one more element, numbered from 1, as a loop makes them
pub each-more : {X : Type 0} (f : ℕ → X → List Stated) (xs : List X) (i : ℕ) (d : X) (old new all : List Stated)
    → i < length xs → old ++ each_numbered f (i + 1) (drop i xs) ≡ all → new ≡ old ++ f (i + 1) (get_or xs i d)
    → new ++ each_numbered f (i + 1 + 1) (drop (i + 1) xs) ≡ all
each-more {X} f xs i d old new all less before pushed =
    let next : suc (i + 1) ≡ i + 1 + 1 = omega arith in
    let rest = each_numbered f (suc (i + 1)) (drop (i + 1) xs) in
    let step : each_numbered f (i + 1) (drop i xs) ≡ f (i + 1) (get_or xs i d) ++ rest =
    at_drop_more (λ (ys : List X). each_numbered f (i + 1) ys) xs i d less in
    ap (λ (n : ℕ). new ++ each_numbered f n (drop (i + 1) xs)) (sym next)
    ∙ (ap (λ (ss : List Stated). ss ++ rest) pushed
    ∙ (append_assoc old (f (i + 1) (get_or xs i d)) rest
    ∙ (ap (λ (ss : List Stated). old ++ ss) (sym step) ∙ before)))

-- The candidate facts, as loops build them.
use Rattle.std.proofs.Common.{◌≡◌, ℕ, suc, ◌+◌, refl, sym, ap, ◌∙◌, arith, List, [], ◌∷◌, ◌++◌, append_assoc, eq-eqb}
use Rattle.std.proofs.Common.{Bool, true, false, if◌then◌else◌}
use Rattle.std.specs.Prelude.{pos, negsuc, nat_eq}
use Rattle.std.specs.List.{range_with_len}
use Rattle.std.proofs.lemmas.Bool.{eqb-true}
use Rattle.std.proofs.lemmas.List.{append-nil}
use Rattle.poly_terms.specs.model.Programs.{Program}
use Rattle.cert_types.proofs.Numbers.{numbers-more}
use Rattle.location_facts.specs.declared.fact.LocFact.{LocFact}
use Rattle.location_facts.specs.Candidates.{last_place, with_places, with_symbol, candidates_at}

-- lists of the numbers so far, one after the other
module _ {A : Type 0} (all : List ℕ → List A) (each : ℕ → List A) (none : all [] ≡ [])
    (more : (j : ℕ) (js : List ℕ) → all (j ∷ js) ≡ each j ++ all js) where
  lists-joined : (js ks : List ℕ) → all (js ++ ks) ≡ all js ++ all ks
  lists-joined [] ks = ap (λ (xs : List A). xs ++ all ks) (sym none)
  lists-joined (j ∷ js) ks =
      more j (js ++ ks)
      ∙ (ap (λ (xs : List A). each j ++ xs) (lists-joined js ks)
      ∙ (sym (append_assoc (each j) (all js) (all ks)) ∙ ap (λ (xs : List A). xs ++ all ks) (sym (more j js))))

  -- the list of the next number is appended to those so far
  pub lists-pushed : (n : ℕ) (base old new : List A) → old ≡ base ++ all (range_with_len 0 n) → new ≡ old ++ each n
      → new ≡ base ++ all (range_with_len 0 (n + 1))
  lists-pushed n base old new e h =
      h
      ∙ (ap (λ (xs : List A). xs ++ each n) e
      ∙ (append_assoc base (all (range_with_len 0 n)) (each n) ∙ ap (λ (xs : List A). base ++ xs) (sym one-more)))
    where
      one-more : all (range_with_len 0 (n + 1)) ≡ all (range_with_len 0 n) ++ each n
      one-more =
          ap all (numbers-more 0 n)
          ∙ (lists-joined (range_with_len 0 n) ((0 + n) ∷ [])
          ∙ (ap (λ (m : ℕ). all (range_with_len 0 n) ++ all (m ∷ [])) (let z : 0 + n ≡ n = omega arith in z)
          ∙ ap (λ (xs : List A). all (range_with_len 0 n) ++ xs)
          (more n [] ∙ (ap (λ (xs : List A). each n ++ xs) none ∙ append-nil (each n)))))

  -- before the first number nothing has been appended
  pub lists-none : (base : List A) → base ≡ base ++ all (range_with_len 0 0)
  lists-none base = sym (ap (λ (xs : List A). base ++ xs) none ∙ append-nil base)

-- the facts with two places: none if these are the same, else three
pub both_same : (old : List LocFact) (s i j : ℕ) → i ≡ j
    → old ≡ old ++ (if nat_eq i j then [] else with_places s i j)
both_same old s i j e =
    sym (ap (λ (v : Bool). old ++ (if v then [] else with_places s i j)) (eq-eqb i j e) ∙ append-nil old)

pub both_differ : (old one two three : List LocFact) (s i j : ℕ) (f g h : LocFact) → (i ≡ j → ⊥) → one ≡ old ++ f ∷ []
    → two ≡ one ++ g ∷ [] → three ≡ two ++ h ∷ [] → f ≡ record { symbol = s; plus = i; minus = j; least = negsuc 0 }
    → g ≡ record { symbol = s; plus = i; minus = j; least = pos 0 }
    → h ≡ record { symbol = s; plus = i; minus = j; least = pos 1 }
    → three ≡ old ++ (if nat_eq i j then [] else with_places s i j)
both_differ old one two three s i j f g h n e k l a b d =
    l
    ∙ (ap (λ (xs : List LocFact). xs ++ h ∷ []) (k ∙ ap (λ (xs : List LocFact). xs ++ g ∷ []) e)
    ∙ (append_assoc (old ++ f ∷ []) (g ∷ []) (h ∷ [])
    ∙ (append_assoc old (f ∷ []) (g ∷ h ∷ []) ∙ (three-are ∙ tested (nat_eq i j) refl))))
  where
    three-are : old ++ f ∷ g ∷ h ∷ [] ≡ old ++ with_places s i j
    three-are =
        ap (λ (x : LocFact). old ++ x ∷ g ∷ h ∷ []) a
        ∙ (ap (λ (x : LocFact). old ++ record { symbol = s; plus = i; minus = j; least = negsuc 0 } ∷ x ∷ h ∷ []) b
        ∙ ap (λ (x : LocFact). old ++ record { symbol = s; plus = i; minus = j; least = negsuc 0 }
        ∷ record { symbol = s; plus = i; minus = j; least = pos 0 } ∷ x ∷ []) d)

    tested : (v : Bool) → nat_eq i j ≡ v
        → old ++ with_places s i j ≡ old ++ (if nat_eq i j then [] else with_places s i j)
    tested true t = absurd (n (eqb-true i j t))
    tested false t = ap (λ (v : Bool). old ++ (if v then [] else with_places s i j)) (sym t)

-- the candidate facts at a symbol: none at the start symbol
pub at_start : (p : Program) (old : List LocFact) (s : ℕ) → s ≡ p.start → old ≡ old ++ candidates_at p s
at_start p old s e =
    sym (ap (λ (v : Bool). old ++ (if v then [] else with_symbol s (range_with_len 0 (suc (last_place p s)))
    (range_with_len 0 (suc (last_place p s))))) (eq-eqb s p.start e) ∙ append-nil old)

pub at_other : (p : Program) (old new : List LocFact) (s last : ℕ) → (s ≡ p.start → ⊥) → last ≡ last_place p s
    → new ≡ old ++ with_symbol s (range_with_len 0 (suc last)) (range_with_len 0 (suc last))
    → new ≡ old ++ candidates_at p s
at_other p old new s last n e h =
    h
    ∙ (ap (λ (k : ℕ). old ++ with_symbol s (range_with_len 0 (suc k)) (range_with_len 0 (suc k))) e
    ∙ tested (nat_eq s p.start) refl)
  where
    tested : (v : Bool) → nat_eq s p.start ≡ v
        → old ++ with_symbol s (range_with_len 0 (suc (last_place p s))) (range_with_len 0 (suc (last_place p s)))
        ≡ old ++ candidates_at p s
    tested true t = absurd (n (eqb-true s p.start t))
    tested false t =
        ap (λ (v : Bool). old ++ (if v then [] else with_symbol s (range_with_len 0 (suc (last_place p s)))
        (range_with_len 0 (suc (last_place p s))))) (sym t)

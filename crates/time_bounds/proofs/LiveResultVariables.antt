-- The places of live rules: they ascend, and contain just the places after live rules.
use Rattle.std.proofs.Common.{◌≡◌, ◌⊎◌, inl, inr, ℕ, zero, suc, ◌+◌, ◌<◌, ◌≤◌, ◌==◌, ◌&&◌, ◌||◌, Bool, true, false}
use Rattle.std.proofs.Common.{cond, List, []}
use Rattle.std.proofs.Common.{◌∷◌, ◌++◌, length, map, Option, Some, None, refl, sym, ◌∙◌, ap, subst, arith}
use Rattle.std.specs.List.{range_with_len}
use Rattle.std.proofs.lemmas.Bool.{and_parts, and_from, or_left, or_right}
use Rattle.model.specs.Programs.{Program, arity_of}
use Rattle.model.specs.Entries.{is_in}
use Rattle.model.specs.Paths.{target_of}
use Rattle.model.proofs.Membership.{same_number, same_number-sound, no_is_not_yes, is_in-cases}
use Rattle.cert_types.specs.cert_rules.Nodes.{ResultVariable}
use Rattle.cert_types.specs.cert_rules.AcceptsPlain.{IsRule, places_at}
use Rattle.rvg_components.specs.Flows.{target_result_variables, result_variables_of, live_result_variables}
use Rattle.bound_fixpoint.specs.Keys.{IsPlace}
use Rattle.bound_fixpoint.specs.Keys.{has_key}
use Rattle.bound_fixpoint.proofs.RuleNumbers.{rule_in, place_in, in_places}
use Rattle.bound_fixpoint.specs.Keys.{key as result_variable}
use Rattle.time_bounds.proofs.ResultVariableLists.{IsBeforeAll, Ascend, AreAllBefore, ascend-append, member-append, append-left}
use Rattle.time_bounds.proofs.ResultVariableLists.{append-right}

-- the places after one rule ascend
row-before : (t i a n : ℕ) → i < a → IsBeforeAll (result_variable t i) (map (result_variable t) (range_with_len a n))
row-before t i a zero l = tt
row-before t i a (suc n) l = (inr (refl, l), row-before t i (a + 1) n (omega (arith, l)))

row-ascend : (t a n : ℕ) → Ascend (map (result_variable t) (range_with_len a n))
row-ascend t a zero = tt
row-ascend t a (suc n) = (row-before t a (a + 1) n (omega arith), row-ascend t (a + 1) n)

-- all these places are after rules from rule k on
abbrev AreFrom : ℕ → List ResultVariable → Type 0
AreFrom k [] = Unit {0}
AreFrom k (m ∷ ms) = (k ≤ m.rule) × AreFrom k ms

from-append : (k : ℕ) (xs ys : List ResultVariable) → AreFrom k xs → AreFrom k ys → AreFrom k (xs ++ ys)
from-append k [] ys h l = l
from-append k (x ∷ xs) ys h l = (h.0, from-append k xs ys h.1 l)

from-less : (k n : ℕ) (xs : List ResultVariable) → k ≤ n → AreFrom n xs → AreFrom k xs
from-less k n [] l h = tt
from-less k n (x ∷ xs) l h = (omega (arith, l, h.0), from-less k n xs l h.1)

-- the places after a rule come before those after later ones
all-before : (t : ℕ) (is : List ℕ) (ys : List ResultVariable) → AreFrom (t + 1) ys → AreAllBefore (map (result_variable t) is) ys
all-before t [] ys h = tt
all-before t (i ∷ is) ys h = (here ys h, all-before t is ys h)
  where
    here : (zs : List ResultVariable) → AreFrom (t + 1) zs → IsBeforeAll (result_variable t i) zs
    here [] k = tt
    here (z ∷ zs) k = (inl (omega (arith, k.0)), here zs k.1)

row-from : (t : ℕ) (is : List ℕ) → AreFrom t (map (result_variable t) is)
row-from t [] = tt
row-from t (i ∷ is) = (omega arith, row-from t is)

module _ (p : Program) (is_live : ℕ → Bool) where
  -- the places after a rule, if it is live
  abbrev row : ℕ → Bool → List ResultVariable
  row t v = cond v (target_result_variables p t) []

  row-ascends : (t : ℕ) (v : Bool) → Ascend (row t v)
  row-ascends t false = tt
  row-ascends t true = by (target_of p t)
    where
      by : (o : Option ℕ) → Ascend (map (result_variable t) (places_at p o))
      by None = tt
      by (Some a) = row-ascend t 1 (arity_of p a)

  row-is_from : (t : ℕ) (v : Bool) → AreFrom t (row t v)
  row-is_from t false = tt
  row-is_from t true = row-from t (places_at p (target_of p t))

  row-first : (t : ℕ) (v : Bool) (ys : List ResultVariable) → AreFrom (t + 1) ys → AreAllBefore (row t v) ys
  row-first t false ys h = tt
  row-first t true ys h = all-before t (places_at p (target_of p t)) ys h

  live-from : (k n : ℕ) → AreFrom k (result_variables_of p is_live (range_with_len k n))
  live-from k zero = tt
  live-from k (suc n) =
      from-append k (row k (is_live k)) (result_variables_of p is_live (range_with_len (k + 1) n)) (row-is_from k (is_live k))
      (from-less k (k + 1) (result_variables_of p is_live (range_with_len (k + 1) n)) (omega arith) (live-from (k + 1) n))

  rows-ascend : (k n : ℕ) → Ascend (result_variables_of p is_live (range_with_len k n))
  rows-ascend k zero = tt
  rows-ascend k (suc n) =
      ascend-append (row k (is_live k)) (result_variables_of p is_live (range_with_len (k + 1) n)) (row-ascends k (is_live k))
      (rows-ascend (k + 1) n)
      (row-first k (is_live k) (result_variables_of p is_live (range_with_len (k + 1) n)) (live-from (k + 1) n))

  -- the places of live rules ascend
  pub live-ascend : Ascend (live_result_variables p is_live)
  live-ascend = rows-ascend 1 (length p.rules)

  -- a member of the places after a rule is one of them
  row-told : (u : ℕ) (is : List ℕ) (t i : ℕ) → has_key (map (result_variable u) is) t i ≡ true → (u ≡ t) × (is_in i is ≡ true)
  row-told u [] t i h = absurd (no_is_not_yes false refl h)
  row-told u (j ∷ is) t i h = go ((u == t) && (j == i)) refl h (row-told u is t i)
    where
      go : (v : Bool) → ((u == t) && (j == i)) ≡ v → (v || has_key (map (result_variable u) is) t i) ≡ true
          → (has_key (map (result_variable u) is) t i ≡ true → (u ≡ t) × (is_in i is ≡ true))
          → (u ≡ t) × (is_in i (j ∷ is) ≡ true)
      go true e k later =
          let both = and_parts (u == t) (j == i) e in (
            same_number-sound u t both.0,
            or_left (i == j) (is_in i is)
                (subst (λ (n : ℕ). (i == n) ≡ true) (sym (same_number-sound j i both.1)) (same_number i)),
          )
      go false e k later = let x = later k in (x.0, or_right (i == j) (is_in i is) x.1)

  told-row : (t : ℕ) (is : List ℕ) (i : ℕ) → is_in i is ≡ true → has_key (map (result_variable t) is) t i ≡ true
  told-row t [] i h = absurd (no_is_not_yes false refl h)
  told-row t (j ∷ is) i h = go (is_in-cases i j is h) (told-row t is i)
    where
      go : (i ≡ j) ⊎ (is_in i is ≡ true) → (is_in i is ≡ true → has_key (map (result_variable t) is) t i ≡ true)
          → has_key (map (result_variable t) (j ∷ is)) t i ≡ true
      go (inl e) later =
          or_left ((t == t) && (j == i)) (has_key (map (result_variable t) is) t i)
          (and_from (t == t) (j == i) (same_number t) (subst (λ (n : ℕ). (n == i) ≡ true) e (same_number i)))
      go (inr m) later = or_right ((t == t) && (j == i)) (has_key (map (result_variable t) is) t i) (later m)

  -- a member of the places of these rules that are live is a place of one of them
  pub listed-live : (ts : List ℕ) (t i : ℕ) → has_key (result_variables_of p is_live ts) t i ≡ true
      → (is_live t ≡ true) × IsPlace p t i
  listed-live [] t i h = absurd (no_is_not_yes false refl h)
  listed-live (u ∷ ts) t i h =
      go (member-append (row u (is_live u)) (result_variables_of p is_live ts) t i h) (listed-live ts t i)
    where
      here : (v : Bool) → is_live u ≡ v → has_key (row u v) t i ≡ true → (is_live t ≡ true) × IsPlace p t i
      here false e k = absurd (no_is_not_yes false refl k)
      here true e k =
          let x = row-told u (places_at p (target_of p u)) t i k in (
            subst (λ (n : ℕ). is_live n ≡ true) x.0 e,
            in_places p t i (subst (λ (n : ℕ). is_in i (places_at p (target_of p n)) ≡ true) x.0 x.1),
          )

      go : (has_key (row u (is_live u)) t i ≡ true) ⊎ (has_key (result_variables_of p is_live ts) t i ≡ true)
          → (has_key (result_variables_of p is_live ts) t i ≡ true → (is_live t ≡ true) × IsPlace p t i)
          → (is_live t ≡ true) × IsPlace p t i
      go (inl k) later = here (is_live u) refl k
      go (inr k) later = later k

  -- each place of a live rule among these rules is one of the places
  among : (ts : List ℕ) (t i : ℕ) → is_in t ts ≡ true → is_live t ≡ true → IsPlace p t i
      → has_key (result_variables_of p is_live ts) t i ≡ true
  among [] t i h live place = absurd (no_is_not_yes false refl h)
  among (u ∷ ts) t i h live place = go (is_in-cases t u ts h) (λ m. among ts t i m live place)
    where
      here : has_key (row t (is_live t)) t i ≡ true
      here = rw live (told-row t (places_at p (target_of p t)) i (place_in p t i place))

      go : (t ≡ u) ⊎ (is_in t ts ≡ true) → (is_in t ts ≡ true → has_key (result_variables_of p is_live ts) t i ≡ true)
          → has_key (result_variables_of p is_live (u ∷ ts)) t i ≡ true
      go (inl e) later =
          append-left (row u (is_live u)) (result_variables_of p is_live ts) t i
          (subst (λ (n : ℕ). has_key (row n (is_live n)) t i ≡ true) e here)
      go (inr m) later = append-right (row u (is_live u)) (result_variables_of p is_live ts) t i (later m)

  -- each place after a live rule is among the places of live rules
  pub live-listed : (t i : ℕ) → IsRule p t → is_live t ≡ true → IsPlace p t i → has_key (live_result_variables p is_live) t i ≡ true
  live-listed t i rule live place =
      among (range_with_len 1 (length p.rules)) t i (rule_in p t rule.rule rule.numbered) live place

-- live rules that are the same have the same places
pub live_result_variables-same : (p : Program) (f g : ℕ → Bool) → ((t : ℕ) → f t ≡ g t) → live_result_variables p f ≡ live_result_variables p g
live_result_variables-same p f g same = by (range_with_len 1 (length p.rules))
  where
    by : (ts : List ℕ) → result_variables_of p f ts ≡ result_variables_of p g ts
    by [] = refl
    by (t ∷ ts) =
        ap (λ (v : Bool). cond v (target_result_variables p t) [] ++ result_variables_of p f ts) (same t)
        ∙ ap (λ (ms : List ResultVariable). cond (g t) (target_result_variables p t) [] ++ ms) (by ts)

-- Packed monomials with ascending keys unpack to distinct monomials, so their sum has exactly their coefficients.
use Rattle.std.proofs.Common.{◌≡◌, ℕ, zero, suc, ◌+◌, ◌/◌, ◌%◌, ◌<◌, ◌≤◌, List, [], ◌∷◌, ◌++◌, replicate, drop}
use Rattle.std.proofs.Common.{Bool, true, false, refl, ap, sym, ◌∙◌, subst, arith, if◌then◌else◌}
use Rattle.std.specs.Prelude.{◌+ℤ◌, nat_abs, ⊤}
use Rattle.std.specs.declared.cmp.Ordering.{Ordering}
use Rattle.std.specs.declared.cmp.Ordering.TheVariants.{Less, Equal, Greater}
use Rattle.std.specs.Ordering.{match_ordering}
use Rattle.std.proofs.lemmas.Bool.{eqb-true, eq-eqb}
use Rattle.std.proofs.lemmas.Map.Lookups.{exact_bytes}
use Rattle.linear_forms.specs.int_laws.NormalForm.{is_zero}
use Rattle.model.specs.Limits.{coefficient_limit}
use Rattle.model.specs.Polynomials.{Monomial, Polynomial}
use Rattle.poly_terms.specs.declared.keyed.Keyed.{Keyed}
use Rattle.poly_terms.specs.Expanding.{order, added, all_added, without_zeros, sum_of}
use Rattle.poly_terms.specs.Faults.{has_large}
use Rattle.poly_terms.specs.Ordered.{AreFrom, IsBounded}
use Rattle.poly_terms.specs.Keys.{factors_at, monomial_at, monomials_at, norm_at, ascend_from}
use Rattle.poly_terms.specs.Totals.{norm}
use Rattle.poly_terms.specs.Distinct.{number, is_within_table, RiseFrom, AreDistinct}
use Rattle.poly_terms.proofs.FactorLaws.{factors-from, ascend-rest}
use Rattle.poly_terms.proofs.FormLaws.{narrow-bounded, narrow-sum_of}

-- the sum of the absolute values of packed monomials is that of the monomials
norm-monomials : (table : List ℕ) (es : List Keyed) → norm (monomials_at table es) ≡ norm_at es
norm-monomials table [] = refl
norm-monomials table (e ∷ es) = ap (λ (n : ℕ). nat_abs e.coef + n) (norm-monomials table es)

-- if that sum is small, no coefficient of the polynomial is large
pub narrow-norm : (table : List ℕ) (es : List Keyed) → norm_at es ≤ coefficient_limit → has_large (sum_of [] (monomials_at table es)) ≡ false
narrow-norm table es l = narrow-sum_of (monomials_at table es) (omega (arith, norm-monomials table es, l))

-- after copies of a variable come only greater ones, so the list determines the number of copies and the rest
copies-same : (m n v : ℕ) (xs ys : List ℕ) → AreFrom (suc v) xs → AreFrom (suc v) ys
    → replicate m v ++ xs ≡ replicate n v ++ ys → (m ≡ n) × (xs ≡ ys)
copies-same zero zero v xs ys a b e = (refl, e)
copies-same zero (suc n) v xs ys a b e = absurd (omega (arith, (subst (AreFrom (suc v)) e a).0))
copies-same (suc m) zero v xs ys a b e = absurd (omega (arith, (subst (AreFrom (suc v)) (sym e) b).0))
copies-same (suc m) (suc n) v xs ys a b e =
    let both = copies-same m n v xs ys a b (ap (drop 1) e) in (ap suc both.0, both.1)

-- in an ascending table, numbers with the same variables are equal
same-number : (n : ℕ) (table : List ℕ) (j k : ℕ) → ascend_from n table ≡ true → is_within_table table j ≡ true → is_within_table table k ≡ true
    → factors_at table j ≡ factors_at table k → j ≡ k
same-number n [] j k h a b e = eqb-true j 0 a ∙ sym (eqb-true k 0 b)
same-number n (v ∷ vs) j k h a b e =
    let rest = ascend-rest n v vs h in
    let both = copies-same (j % 16) (k % 16) v (factors_at vs (j / 16)) (factors_at vs (k / 16))
    (factors-from (suc v) vs (j / 16) rest) (factors-from (suc v) vs (k / 16) rest) e in
    whole j k both.0 (same-number (suc v) vs (j / 16) (k / 16) rest a b both.1)
  where
    whole : (x y : ℕ) → x % 16 ≡ y % 16 → x / 16 ≡ y / 16 → x ≡ y
    whole x y e f = omega (arith, e, f)

-- a smaller number fits the table if a greater one does
fits-less : (table : List ℕ) (j k : ℕ) → j ≤ k → is_within_table table k ≡ true → is_within_table table j ≡ true
fits-less [] j k l h = eq-eqb j 0 (none j k l (eqb-true k 0 h))
  where
    none : (x y : ℕ) → x ≤ y → y ≡ 0 → x ≡ 0
    none x y l e = omega (arith, l, e)
fits-less (v ∷ vs) j k l h = fits-less vs (j / 16) (k / 16) (quotients j k l) h
  where
    quotients : (x y : ℕ) → x ≤ y → x / 16 ≤ y / 16
    quotients x y l = omega (arith, l)

-- no monomial has these variables
abbrev IsApart : List ℕ → Polynomial → Type 0
IsApart vs [] = ⊤
IsApart vs (t ∷ ts) = (vs ≡ t.vars → ⊥) × IsApart vs ts

-- adding a monomial with other variables preserves this
apart-added : (vs : List ℕ) (m : Monomial) (ts : Polynomial) → (vs ≡ m.vars → ⊥) → IsApart vs ts → IsApart vs (added m ts)
apart-added vs m [] d h = (d, h)
apart-added vs m (t ∷ ts) d h = go (order m.vars t.vars) (apart-added vs m ts d h.1)
  where
    go : (o : Ordering) → IsApart vs (added m ts)
        → IsApart vs (match_ordering o (m ∷ t ∷ ts) (record { coef = t.coef +ℤ m.coef; vars = t.vars } ∷ ts) (t ∷ added m ts))
    go Less ih = (d, (h.0, h.1))
    go Equal ih = (h.0, h.1)
    go Greater ih = (h.0, ih)

-- adding a monomial whose variables no other has preserves the bound on coefficients
bounded-apart : (n : ℕ) (m : Monomial) (ts : Polynomial) → nat_abs m.coef ≤ n → IsApart m.vars ts → IsBounded n ts
    → IsBounded n (added m ts)
bounded-apart n m [] l d h = (l, h)
bounded-apart n m (t ∷ ts) l d h = go (order m.vars t.vars) refl (bounded-apart n m ts l d.1 h.1)
  where
    go : (o : Ordering) → order m.vars t.vars ≡ o → IsBounded n (added m ts)
        → IsBounded n (match_ordering o (m ∷ t ∷ ts) (record { coef = t.coef +ℤ m.coef; vars = t.vars } ∷ ts) (t ∷ added m ts))
    go Less e ih = (l, (h.0, h.1))
    go Equal e ih = absurd (d.0 (exact_bytes m.vars t.vars e))
    go Greater e ih = (h.0, ih)

-- removing zeros preserves the bound on coefficients
bounded-without_zeros : (n : ℕ) (ms : Polynomial) → IsBounded n ms → IsBounded n (without_zeros ms)
bounded-without_zeros n [] h = h
bounded-without_zeros n (m ∷ ms) h = go (is_zero m.coef) (bounded-without_zeros n ms h.1)
  where
    go : (b : Bool) → IsBounded n (without_zeros ms) → IsBounded n (if b then without_zeros ms else m ∷ without_zeros ms)
    go true ih = ih
    go false ih = (h.0, ih)

-- if the last key fits the table, each does
fits-first : (table : List ℕ) (e : Keyed) (es : List Keyed) → RiseFrom table e es → is_within_table table (number e) ≡ true
fits-first table e [] h = h
fits-first table e (f ∷ fs) h = fits-less table (number e) (number f) (omega (arith, h.0)) (fits-first table f fs h.1.1)

-- no key that fits and is greater than this one has the variables of a monomial of this list
abbrev IsOpenAfter : List ℕ → ℕ → Polynomial → Type 0
IsOpenAfter table n ts = (k : ℕ) → n < k → is_within_table table k ≡ true → IsApart (factors_at table k) ts

-- after adding a packed monomial, this holds for the keys greater than its own
open-added : (table : List ℕ) (n : ℕ) (e : Keyed) (ts : Polynomial) → ascend_from 0 table ≡ true → n ≤ number e
    → is_within_table table (number e) ≡ true → IsOpenAfter table n ts → IsOpenAfter table (number e) (added (monomial_at table e) ts)
open-added table n e ts h l f o =
    λ k m g. apart-added (factors_at table k) (monomial_at table e) ts
    (λ s. below (number e) k m (same-number 0 table k (number e) h g f s))
    (o k (omega (arith, l, m)) g)
  where
    below : (x y : ℕ) → x < y → y ≡ x → ⊥
    below x y l e = omega (arith, l, e)

-- adding packed monomials with keys that ascend after those of a list preserves the bound on coefficients
bounded-rise : (table : List ℕ) (e : Keyed) (es : List Keyed) (ts : Polynomial) → ascend_from 0 table ≡ true → RiseFrom table e es
    → IsOpenAfter table (number e) ts → IsBounded coefficient_limit ts
    → IsBounded coefficient_limit (all_added ts (monomials_at table es))
bounded-rise table e [] ts h r o b = b
bounded-rise table e (f ∷ fs) ts h r o b =
    let here = fits-first table f fs r.1.1 in
    bounded-rise table f fs (added (monomial_at table f) ts) h r.1.1
    (open-added table (number e) f ts h (omega (arith, r.0)) here o)
    (bounded-apart coefficient_limit (monomial_at table f) ts r.1.0 (o (number f) r.0 here) b)

-- the sum of packed monomials that are distinct and narrow has no large coefficient
pub narrow-distinct : (table : List ℕ) (es : List Keyed) → ascend_from 0 table ≡ true → AreDistinct table es
    → has_large (sum_of [] (monomials_at table es)) ≡ false
narrow-distinct table [] h d = refl
narrow-distinct table (e ∷ es) h d =
    narrow-bounded (sum_of [] (monomials_at table (e ∷ es)))
    (bounded-without_zeros coefficient_limit (all_added [] (monomials_at table (e ∷ es)))
    (bounded-rise table e es (monomial_at table e ∷ []) h d.1
    (open-added table (number e) e [] h (omega arith) (fits-first table e es d.1) (λ k l g. tt))
    (d.0, tt)))

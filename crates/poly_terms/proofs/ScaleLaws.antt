-- Products with a constant.
use Rattle.std.proofs.Common.{◌≡◌, ◌≢◌, ℕ, zero, suc, ◌*◌, ◌≤◌, List, [], ◌∷◌, map, Bool, true, false, refl, ap, sym}
use Rattle.std.proofs.Common.{◌∙◌, subst, arith, nat_lt, if◌then◌else◌}
use Rattle.std.specs.Prelude.{ℤ, pos, negsuc, ◌*ℤ◌, neg_ℤ, nat_abs}
use Rattle.std.proofs.lemmas.Bool.Decides.{nat_tests}
use Rattle.std.proofs.lemmas.Int.{ints, unsigned_abs-mul}
use Rattle.std.proofs.Math.Nat.{mul-le-mul}
use Rattle.linear_forms.specs.int_laws.NormalForm.{is_zero}
use Rattle.model.specs.Polynomials.{Polynomial}
use Rattle.poly_terms.specs.Expanding.{all_added, without_zeros, opposite, inserted, all_inserted, products, product_of}
use Rattle.poly_terms.specs.Expanding.{one}
use Rattle.poly_terms.specs.Ordered.{IsBefore, IsAscending, AreFrom, AscendWeakly, HasNoZero, HasFactorsInOrder}
use Rattle.poly_terms.specs.Ordered.{IsOrdered}
use Rattle.poly_terms.specs.Scaling.{times, constant}
use Rattle.poly_terms.proofs.Values.{zero_is}
use Rattle.poly_terms.proofs.OrderLaws.{from-inserted}
use Rattle.poly_terms.proofs.MergeLaws.{added-to-none}
use Rattle.linear_forms.proofs.int_laws.RingLaws.{mul_comm_ℤ as swap}

-- a variable that is at most as great as the others is inserted before them
inserted-first : (v : ℕ) (us : List ℕ) → AreFrom v us → inserted v us ≡ v ∷ us
inserted-first v [] h = refl
inserted-first v (u ∷ us) h = ap (λ (b : Bool). if b then u ∷ inserted v us else v ∷ u ∷ us) (let e : nat_lt u v ≡ false = above h.0 in e)
  where
    above : v ≤ u → nat_lt u v ≡ false
    above l = grind (arith, nat_tests)

-- that variable is still the first after others are inserted
least-stays : (v : ℕ) (us ws : List ℕ) → AreFrom v us → AreFrom v ws → all_inserted (v ∷ us) ws ≡ v ∷ all_inserted us ws
least-stays v us [] h k = refl
least-stays v us (w ∷ ws) h k = ap (λ (vs : List ℕ). all_inserted vs ws) (go (nat_lt v w) refl) ∙ least-stays v (inserted w us) ws (from-inserted v w us k.0 h) k.1
  where
    same : v ≤ w → nat_lt v w ≡ false → v ≡ w
    same l e = grind (arith, nat_tests)

    go : (b : Bool) → nat_lt v w ≡ b → (if b then v ∷ inserted w us else w ∷ v ∷ us) ≡ v ∷ inserted w us
    go true e = refl
    go false e = subst (λ (x : ℕ). x ∷ v ∷ us ≡ v ∷ inserted x us) (same k.0 e) (ap (λ (vs : List ℕ). v ∷ vs) (sym (inserted-first v us h)))

-- inserting ascending variables one by one into the empty list gives the same list
inserted-none : (ws : List ℕ) → AscendWeakly ws → all_inserted [] ws ≡ ws
inserted-none [] h = refl
inserted-none (w ∷ ws) h = least-stays w [] ws tt h.0 ∙ ap (λ (vs : List ℕ). w ∷ vs) (inserted-none ws h.1)

-- the products with a constant on the right
products-right : (z : ℤ) (p : Polynomial) → products p (constant z ∷ []) ≡ map (times z) p
products-right z [] = refl
products-right z (m ∷ p) = ap (λ (q : Polynomial). times z m ∷ q) (products-right z p)

products-left : (z : ℤ) (q : Polynomial) → HasFactorsInOrder q → products (constant z ∷ []) q ≡ map (times z) q
products-left z [] h = refl
products-left z (n ∷ q) h = λ i. record { coef = swap z n.coef i; vars = inserted-none n.vars h.0 i } ∷ products-left z q h.1 i

-- multiplying by a constant preserves the order
before-times : (z : ℤ) (vs : List ℕ) (ms : Polynomial) → IsBefore vs ms → IsBefore vs (map (times z) ms)
before-times z vs [] h = h
before-times z vs (m ∷ ms) h = (h.0, before-times z vs ms h.1)

ascending-times : (z : ℤ) (p : Polynomial) → IsAscending p → IsAscending (map (times z) p)
ascending-times z [] h = h
ascending-times z (m ∷ p) h = (before-times z m.vars p h.0, ascending-times z p h.1)

-- a product of numbers other than 0 isn't 0
product-nonzero : (x y : ℤ) → x ≢ pos 0 → y ≢ pos 0 → x *ℤ y ≢ pos 0
product-nonzero x y h k e = omega (arith, unsigned_abs-mul x y, at_least 1 1 (nat_abs x) (nat_abs y) (positive x h) (positive y k), ap nat_abs e)
  where
    at_least : (a b c d : ℕ) → a ≤ c → b ≤ d → a * b ≤ c * d
    at_least a b c d = mul-le-mul

    positive : (z : ℤ) → z ≢ pos 0 → 1 ≤ nat_abs z
    positive (pos zero) h = absurd (h refl)
    positive (pos (suc n)) h = omega arith
    positive (negsuc n) h = omega arith

nonzero-times : (z : ℤ) (p : Polynomial) → z ≢ pos 0 → HasNoZero p → HasNoZero (map (times z) p)
nonzero-times z [] k h = tt
nonzero-times z (m ∷ p) k h = (product-nonzero m.coef z h.0 k, nonzero-times z p k h.1)

-- if no coefficient is 0, removing zeros changes nothing
all-left : (p : Polynomial) → HasNoZero p → without_zeros p ≡ p
all-left [] h = refl
all-left (m ∷ p) h = go (is_zero m.coef) refl (all-left p h.1)
  where
    go : (b : Bool) → is_zero m.coef ≡ b → without_zeros p ≡ p → (if b then without_zeros p else m ∷ without_zeros p) ≡ m ∷ p
    go true e ih = absurd (h.0 (zero_is m.coef e))
    go false e ih = ap (λ (q : Polynomial). m ∷ q) ih

-- collecting the multiples of an ordered polynomial by a constant other than 0 changes nothing
collected-times : (z : ℤ) (p : Polynomial) → IsOrdered p → z ≢ pos 0 → without_zeros (all_added [] (map (times z) p)) ≡ map (times z) p
collected-times z p h k =
    ap without_zeros (added-to-none (map (times z) p) (ascending-times z p h.ascending)) ∙ all-left (map (times z) p) (nonzero-times z p k h.nonzero)

-- a product with a constant on the right is each coefficient multiplied by it
pub times-right : (z : ℤ) (p q : Polynomial) → q ≡ constant z ∷ [] → IsOrdered p → IsOrdered q → product_of p q ≡ map (times z) p
times-right z p q e h k =
    ap (product_of p) e
    ∙ (ap (λ (ms : Polynomial). without_zeros (all_added [] ms)) (products-right z p) ∙ collected-times z p h (subst HasNoZero e k.nonzero).0)

-- a product with a constant on the left is each coefficient multiplied by it
pub times-left : (z : ℤ) (p q : Polynomial) → p ≡ constant z ∷ [] → IsOrdered p → IsOrdered q → product_of p q ≡ map (times z) q
times-left z p q e h k =
    ap (λ (r : Polynomial). product_of r q) e
    ∙ (ap (λ (ms : Polynomial). without_zeros (all_added [] ms)) (products-left z q k.factors) ∙ collected-times z q k (subst HasNoZero e h.nonzero).0)

-- the first power of an ordered polynomial is itself
pub product-one : (p : Polynomial) → IsOrdered p → product_of one p ≡ p
product-one p h =
    ap (λ (ms : Polynomial). without_zeros (all_added [] ms)) (products-left (pos 1) p h.factors)
    ∙ (collected-times (pos 1) p h (λ e. omega (arith, ints, e)) ∙ once p)
  where
    times_one : (z : ℤ) → z *ℤ pos 1 ≡ z
    times_one z = omega (arith, ints)

    once : (p : Polynomial) → map (times (pos 1)) p ≡ p
    once [] = refl
    once (m ∷ p) = λ i. record { coef = times_one m.coef i; vars = m.vars } ∷ once p i

-- multiplying by -1 is negation
pub opposite-times : (p : Polynomial) → map (times (negsuc 0)) p ≡ map opposite p
opposite-times [] = refl
opposite-times (m ∷ p) = λ i. record { coef = minus_one m.coef i; vars = m.vars } ∷ opposite-times p i
  where
    minus_one : (z : ℤ) → z *ℤ negsuc 0 ≡ neg_ℤ z
    minus_one z = omega (arith, ints)

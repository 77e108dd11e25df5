-- From the forms of an expression's operands to that of the whole.
use Rattle.std.proofs.Common.{◌≡◌, ℕ, zero, suc, ◌+◌, ◌*◌, ◌≤◌, List, [], ◌∷◌, ◌++◌, map, length, max}
use Rattle.std.proofs.Common.{refl, ap, sym, ◌∙◌, subst, arith, true, mul-le-mul, mul_comm}
use Rattle.std.specs.Prelude.{None, ℤ, pos, negsuc, ◌+ℤ◌, ◌*ℤ◌}
use Rattle.std.proofs.lemmas.Int.{ints}
use Rattle.std.proofs.lemmas.List.{map-append}
use Rattle.linear_forms.specs.int_laws.Polynomial.{variable, ◌⊕◌, ◌⊗◌}
use Rattle.linear_forms.proofs.int_laws.Identities.{identity}
use Rattle.linear_forms.proofs.int_laws.RingLaws.{mul_comm_ℤ}
use Rattle.model.specs.Limits.{degree_limit}
use Rattle.model.specs.Polynomials.{Monomial, Polynomial, degree_of}
use Rattle.model.specs.Terms.{Term, Literal, Variable, Negation, Addition, Subtraction, Multiplication, Exponentiation}
use Rattle.poly_terms.specs.declared.key_form.KeyForm.{KeyForm}
use Rattle.poly_terms.specs.declared.keyed.Key.{Key}
use Rattle.poly_terms.specs.declared.keyed.Keyed.{Keyed}
use Rattle.poly_terms.specs.Expanding.{all_added, sum_of, opposite, products, power_of, expanded}
use Rattle.poly_terms.specs.Faults.{fault_in, fault_of, first_fault, or_else}
use Rattle.poly_terms.specs.Powers.{faults_of_powers}
use Rattle.poly_terms.specs.Keys.{number_of, key_sum, no_factors, factors_at, monomial_at, monomials_at, ascend_from}
use Rattle.poly_terms.specs.Keys.{opposite_at, product_at, all_products, IsMergedFrom, IsPowerAt}
use Rattle.poly_terms.specs.KeyForms.{IsExpansion, IsWithinLimits, RepresentsTerm}
use Rattle.poly_terms.specs.Scaling.{times}
use Rattle.poly_terms.specs.Totals.{total, IsSamePolynomial}
use Rattle.poly_terms.proofs.AnswerLaws.{expanded-small, opposite-small}
use Rattle.poly_terms.proofs.FaultLaws.{first-one, first-two, first-power, or_else-none}
use Rattle.poly_terms.proofs.FormLaws.{degree-append}
use Rattle.poly_terms.proofs.KeyLaws.{degree-merged, degree-merged-products, same-at, same-products-at}
use Rattle.poly_terms.proofs.OrderLaws.{expanded-ordered}
use Rattle.poly_terms.proofs.ScaleLaws.{opposite-times}
use Rattle.poly_terms.proofs.TotalLaws.{same-sums, same-from_sum, same-sum_of, same-products, sum-of-ordered}
use Rattle.poly_terms.proofs.TotalLaws.{total-append}
use Rattle.poly_terms.proofs.TotalLaws.{total-all_added, total-without_zeros}
use Rattle.poly_terms.proofs.UnpackingLaws.{degree-power-at, none-below, none-modest, none-small, power-at}

-- the sum of packed monomials is the expanded form that they denote
whole-form : (table : List ℕ) (t : Term) (es : List Keyed) → IsSamePolynomial (monomials_at table es) (expanded t)
    → sum_of [] (monomials_at table es) ≡ expanded t
whole-form table t es h = same-sums (monomials_at table es) (expanded t) h ∙ sum-of-ordered (expanded t) (expanded-ordered t)

-- the polynomial of a form that represents an expression is the expression's expanded form
pub expansion-stands : (table : List ℕ) (t : Term) (f : KeyForm) (p : Polynomial) → RepresentsTerm table t f
    → p ≡ sum_of [] (monomials_at table f.terms.items) → IsExpansion t p
expansion-stands table t f p h e = record { form = e ∙ whole-form table t f.terms.items h.whole; none = h.none }

-- monomials within the limits that denote an expanded form represent the expression, if its only possible fault is its
-- own
stands : (table : List ℕ) (t : Term) (es : List Keyed) (n k : ℕ) (f : KeyForm) → IsWithinLimits table es n f
    → IsSamePolynomial (monomials_at table es) (expanded t) → degree_of (monomials_at table es) ≤ n → k ≤ degree_limit
    → (fault_in (expanded t) k ≡ None → first_fault t ≡ None) → RepresentsTerm table t f
stands table t es n k f w same d l first = record {
  whole = subst (λ (ks : List Keyed). IsSamePolynomial (monomials_at table ks) (expanded t)) (sym w.terms) same;
  none = first (none-modest table es (expanded t) k w.modest (whole-form table t es same) (omega (arith, d, w.low)) l);
  factors = omega (arith, d, w.degree, ap (λ (ks : List Keyed). degree_of (monomials_at table ks)) w.terms);
  low = omega (arith, w.degree, w.low);
}

-- the packed form of a literal represents it
pub literal-stands : (table : List ℕ) (z : ℤ) (e : Keyed) (f : KeyForm) → monomial_at table e ≡ record { coef = z; vars = [] }
    → IsWithinLimits table (e ∷ []) 0 f → RepresentsTerm table (Literal z) f
literal-stands table z e f h w =
    stands table (Literal z) (e ∷ []) 0 1 f w
    (subst (λ (m : Monomial). IsSamePolynomial (m ∷ []) (expanded (Literal z))) (sym h)
    (record { totals = λ g. sym ((same-sum_of (record { coef = z; vars = [] } ∷ [])).totals g) }))
    (omega (arith, ap (λ (m : Monomial). length m.vars) h)) (omega arith)
    (λ n. or_else-none (fault_of (Literal z)) ∙ n)

-- the empty form represents the literal 0
pub zero-stands : (table : List ℕ) (z : ℤ) (f : KeyForm) → z ≡ pos 0 → IsWithinLimits table [] 0 f → RepresentsTerm table (Literal z) f
zero-stands table z f e w =
    stands table (Literal z) [] 0 1 f w
    (subst (λ (x : ℤ). IsSamePolynomial [] (expanded (Literal x))) (sym e) (record { totals = λ g. refl }))
    (omega arith) (omega arith)
    (λ n. or_else-none (fault_of (Literal z)) ∙ n)

-- the packed form of a variable represents it
pub variable-stands : (table : List ℕ) (i : ℕ) (e : Keyed) (f : KeyForm) → monomial_at table e ≡ record { coef = pos 1; vars = i ∷ [] }
    → IsWithinLimits table (e ∷ []) 1 f → RepresentsTerm table (Variable i) f
variable-stands table i e f h w =
    stands table (Variable i) (e ∷ []) 1 1 f w
    (subst (λ (m : Monomial). IsSamePolynomial (m ∷ []) (expanded (Variable i))) (sym h) (record { totals = λ g. refl }))
    (omega (arith, ap (λ (m : Monomial). length m.vars) h)) (omega arith)
    (λ n. or_else-none (fault_of (Variable i)) ∙ n)

-- a row of a constant multiplies each coefficient by it
constant-row : (table : List ℕ) (z : ℤ) (fs : List Keyed)
    → monomials_at table (map (product_at (record { key = no_factors; coef = z })) fs) ≡ map (times z) (monomials_at table fs)
constant-row table z [] = refl
constant-row table z (f ∷ fs) = λ i. record { coef = mul_comm_ℤ z f.coef i; vars = factors_at table (number_of (same f.key i)) } ∷ constant-row table z fs i
  where
    alone : (n : ℕ) → 0 + n ≡ n
    alone n = omega arith

    same : (k : Key) → key_sum no_factors k ≡ k
    same k = λ i. record { high = alone k.high i; low = alone k.low i }

-- the total of a polynomial times a constant, and its degree
total-times : (g : List ℕ → ℤ) (z : ℤ) (p : Polynomial) → total g (map (times z) p) ≡ z *ℤ total g p
total-times g z [] = nothing z
  where
    nothing : (x : ℤ) → pos 0 ≡ x *ℤ pos 0
    nothing x = omega (arith, ints)
total-times g z (m ∷ p) = ap (λ (r : ℤ). ((m.coef *ℤ z) *ℤ g m.vars) +ℤ r) (total-times g z p) ∙ distribute m.coef z (g m.vars) (total g p)
  where
    distribute : (x y v r : ℤ) → ((x *ℤ y) *ℤ v) +ℤ (y *ℤ r) ≡ y *ℤ ((x *ℤ v) +ℤ r)
    distribute x y v r = identity (x ∷ y ∷ v ∷ r ∷ [])
        ((variable 0 ⊗ variable 1) ⊗ variable 2 ⊕ variable 1 ⊗ variable 3)
        (variable 1 ⊗ (variable 0 ⊗ variable 2 ⊕ variable 3)) refl

degree-times : (z : ℤ) (p : Polynomial) → degree_of (map (times z) p) ≡ degree_of p
degree-times z [] = refl
degree-times z (m ∷ p) = ap (max (length m.vars)) (degree-times z p)

-- the total and the degree of a list merged with another one times a constant
merged-total : (table : List ℕ) (z : ℤ) (ls rs es : List Keyed) → IsMergedFrom es (ls ++ map (product_at (record { key = no_factors; coef = z })) rs)
    → (g : List ℕ → ℤ) → total g (monomials_at table es) ≡ total g (monomials_at table ls) +ℤ (z *ℤ total g (monomials_at table rs))
merged-total table z ls rs es h g =
    let row = map (product_at (record { key = no_factors; coef = z })) rs in
    (same-at table es (ls ++ row) h).totals g
    ∙ (ap (total g) (map-append (monomial_at table) ls row)
    ∙ (total-append g (monomials_at table ls) (monomials_at table row)
    ∙ ap (λ (x : ℤ). total g (monomials_at table ls) +ℤ x) (ap (total g) (constant-row table z rs) ∙ total-times g z (monomials_at table rs))))

merged-degree : (table : List ℕ) (z : ℤ) (ls rs es : List Keyed) → IsMergedFrom es (ls ++ map (product_at (record { key = no_factors; coef = z })) rs)
    → degree_of (monomials_at table es) ≤ max (degree_of (monomials_at table ls)) (degree_of (monomials_at table rs))
merged-degree table z ls rs es h =
    let row = map (product_at (record { key = no_factors; coef = z })) rs in
    omega (
      arith,
      degree-merged table es (ls ++ row) h,
      ap degree_of (map-append (monomial_at table) ls row),
      degree-append (monomials_at table ls) (monomials_at table row),
      ap degree_of (constant-row table z rs),
      degree-times z (monomials_at table rs),
    )

-- the total of a sum of two polynomials is the sum of the totals
total-sum_of : (g : List ℕ → ℤ) (p q : Polynomial) → total g (sum_of p q) ≡ total g p +ℤ total g q
total-sum_of g p q = total-without_zeros g (all_added p q) ∙ total-all_added g p q

-- the total of a negation is the negated total
total-opposite : (g : List ℕ → ℤ) (p : Polynomial) → total g (map opposite p) ≡ negsuc 0 *ℤ total g p
total-opposite g p = ap (total g) (sym (opposite-times p)) ∙ total-times g (negsuc 0) p

-- packed monomials with negated coefficients denote the negated polynomial
opposites-at : (table : List ℕ) (es : List Keyed) → monomials_at table (map opposite_at es) ≡ map opposite (monomials_at table es)
opposites-at table [] = refl
opposites-at table (e ∷ es) = ap (λ (ms : Polynomial). opposite (monomial_at table e) ∷ ms) (opposites-at table es)

-- the packed form of a negation represents it: it has no fault if its operand has none
pub negation-stands : (table : List ℕ) (e : Term) (form f : KeyForm) → RepresentsTerm table e form
    → f.terms.items ≡ map opposite_at form.terms.items → f.degree ≡ form.degree → RepresentsTerm table (Negation e) f
negation-stands table e form f h is d = record {
  whole = record {
    totals = λ g. ap (total g) same
        ∙ (total-opposite g (monomials_at table form.terms.items)
        ∙ (ap (λ (x : ℤ). negsuc 0 *ℤ x) (h.whole.totals g) ∙ sym (total-opposite g (expanded e))));
  };
  none = first-one e (Negation e) ∙ (λ i. or_else (h.none i) (none i));
  factors = omega (
    arith,
    ap degree_of same,
    ap degree_of (sym (opposite-times (monomials_at table form.terms.items))),
    degree-times (negsuc 0) (monomials_at table form.terms.items),
    h.factors,
    d,
  );
  low = omega (arith, d, h.low);
}
  where
    same : monomials_at table f.terms.items ≡ map opposite (monomials_at table form.terms.items)
    same = ap (monomials_at table) is ∙ opposites-at table form.terms.items

    none : fault_of (Negation e) ≡ None
    none = none-small (map opposite (expanded e)) 1 (opposite-small (expanded e) (expanded-small e h.none)) (omega arith)

-- the packed form of a sum represents it
pub sum-stands : (table : List ℕ) (d e : Term) (left right f : KeyForm) (es : List Keyed) → RepresentsTerm table d left → RepresentsTerm table e right
    → IsMergedFrom es (left.terms.items ++ map (product_at (record { key = no_factors; coef = pos 1 })) right.terms.items)
    → IsWithinLimits table es (max left.degree right.degree) f → RepresentsTerm table (Addition d e) f
sum-stands table d e left right f es h k m w =
    stands table (Addition d e) es (max left.degree right.degree) 1 f w
    (record {
      totals = λ g. merged-total table (pos 1) left.terms.items right.terms.items es m g
          ∙ ((λ i. h.whole.totals g i +ℤ (pos 1 *ℤ k.whole.totals g i))
          ∙ (once (total g (expanded d)) (total g (expanded e)) ∙ sym (total-sum_of g (expanded d) (expanded e))));
    })
    (omega (arith, merged-degree table (pos 1) left.terms.items right.terms.items es m, h.factors, k.factors)) (omega arith)
    (λ n. first-two d e (Addition d e) ∙ (λ i. or_else (h.none i) (or_else (k.none i) (n i))))
  where
    once : (x y : ℤ) → x +ℤ (pos 1 *ℤ y) ≡ x +ℤ y
    once x y = omega (arith, ints)

-- the packed form of a difference represents it
pub difference-stands : (table : List ℕ) (d e : Term) (left right f : KeyForm) (es : List Keyed) → RepresentsTerm table d left → RepresentsTerm table e right
    → IsMergedFrom es (left.terms.items ++ map (product_at (record { key = no_factors; coef = negsuc 0 })) right.terms.items)
    → IsWithinLimits table es (max left.degree right.degree) f → RepresentsTerm table (Subtraction d e) f
difference-stands table d e left right f es h k m w =
    stands table (Subtraction d e) es (max left.degree right.degree) 1 f w
    (record {
      totals = λ g. merged-total table (negsuc 0) left.terms.items right.terms.items es m g
          ∙ ((λ i. h.whole.totals g i +ℤ (negsuc 0 *ℤ k.whole.totals g i))
          ∙ (ap (λ (x : ℤ). total g (expanded d) +ℤ x) (sym (total-opposite g (expanded e)))
          ∙ sym (total-sum_of g (expanded d) (map opposite (expanded e)))));
    })
    (omega (arith, merged-degree table (negsuc 0) left.terms.items right.terms.items es m, h.factors, k.factors)) (omega arith)
    (λ n. first-two d e (Subtraction d e) ∙ (λ i. or_else (h.none i) (or_else (k.none i) (n i))))

-- the packed form of a product represents it
pub product-stands : (table : List ℕ) (d e : Term) (left right f : KeyForm) (es : List Keyed) (n : ℕ) → ascend_from 0 table ≡ true
    → RepresentsTerm table d left → RepresentsTerm table e right → IsMergedFrom es (all_products left.terms.items right.terms.items)
    → degree_of (monomials_at table left.terms.items) + degree_of (monomials_at table right.terms.items) ≤ n → IsWithinLimits table es n f
    → RepresentsTerm table (Multiplication d e) f
product-stands table d e left right f es n a h k m is w =
    let ls = monomials_at table left.terms.items in
    let rs = monomials_at table right.terms.items in
    let few : degree_of ls + degree_of rs ≤ 15 = omega (arith, is, w.low) in
    stands table (Multiplication d e) es n 1 f w
    (record {
      totals = λ g. (same-products-at table left.terms.items right.terms.items es a few m).totals g
          ∙ ((same-products ls (expanded d) rs (expanded e) h.whole k.whole).totals g
          ∙ sym ((same-sum_of (products (expanded d) (expanded e))).totals g));
    })
    (omega (arith, degree-merged-products table left.terms.items right.terms.items es a few m, is)) (omega arith)
    (λ n. first-two d e (Multiplication d e) ∙ (λ i. or_else (h.none i) (or_else (k.none i) (n i))))

-- the degree of a power, from a bound on its base's degree that holds if it is low
pub degree-times-exponent : (d m k : ℕ) → (m ≤ degree_limit → d ≤ m) → m * k ≤ degree_limit → k * d ≤ m * k
degree-times-exponent d m zero h l = omega arith
degree-times-exponent d m (suc k) h l = omega (arith, at_most (suc k) d (suc k) m (omega arith) (h (omega (arith, l, mul_comm m (suc k)))), mul_comm m (suc k))
  where
    at_most : (a b c d : ℕ) → a ≤ c → b ≤ d → a * b ≤ c * d
    at_most a b c d = mul-le-mul

-- the packed form of a power represents it
pub power-stands : (table : List ℕ) (e : Term) (base f : KeyForm) (es : List Keyed) (n k : ℕ) → ascend_from 0 table ≡ true
    → RepresentsTerm table e base → IsPowerAt table base.terms.items k es → k ≤ degree_limit
    → k * degree_of (monomials_at table base.terms.items) ≤ n
    → IsWithinLimits table es n f → RepresentsTerm table (Exponentiation e k) f
power-stands table e base f es n k a h p l is w =
    stands table (Exponentiation e k) es n k f w (same-from_sum (monomials_at table es) (power_of (expanded e) k) (power-at table base.terms.items (expanded e) k es a h.whole low p))
    (omega (arith, degree-power-at table base.terms.items k es a low p, is)) l
    (λ none. first-power e k ∙ (λ i. or_else (h.none i) (powers k es p low l none i)))
  where
    d : ℕ
    d = degree_of (monomials_at table base.terms.items)

    low : k * d ≤ degree_limit
    low = omega (arith, is, w.low)

    powers : (k : ℕ) (es : List Keyed) → IsPowerAt table base.terms.items k es → k * d ≤ degree_limit → k ≤ degree_limit
        → fault_in (power_of (expanded e) k) k ≡ None → faults_of_powers (expanded e) k ≡ None
    powers zero es p few l none = none
    powers (suc k) es p few l none =
        λ i. or_else (none-below table base.terms.items (expanded e) k es a h.whole few (omega (arith, l)) p i) (none i)

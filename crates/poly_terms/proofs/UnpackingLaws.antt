-- Adding packed monomials one by one, and powers in packed form.
use Rattle.std.proofs.Common.{◌≡◌, ℕ, zero, suc, ◌+◌, ◌*◌, ◌<◌, ◌≤◌, ◌||◌, List, [], ◌∷◌, ◌++◌, length, drop, get_or}
use Rattle.std.proofs.Common.{Bool, true, false, refl, ap, sym, ◌∙◌, subst, append-nil, arith, nat_lt, if◌then◌else◌}
use Rattle.std.specs.Prelude.{Option, Some, None, pos}
use Rattle.std.proofs.lemmas.Bool.Decides.{nat_tests}
use Rattle.std.proofs.lemmas.List.{drop_more, length-map}
use Rattle.model.specs.Limits.{monomial_limit, degree_limit}
use Rattle.model.specs.Polynomials.{Monomial, Polynomial, degree_of}
use Rattle.poly_terms.specs.declared.keyed.Keyed.{Keyed}
use Rattle.poly_terms.specs.Expanding.{added, all_added, sum_of, products, power_of}
use Rattle.poly_terms.specs.Faults.{Fault, LargeCoefficient, ManyTerms, HighDegree, has_large, fault_in, or_else}
use Rattle.poly_terms.specs.Ordered.{IsSmall}
use Rattle.poly_terms.specs.Powers.{faults_of_powers, IsPowerWithout}
use Rattle.poly_terms.specs.Keys.{number_of, no_factors, factors_at, monomial_at, monomials_at, ascend_from}
use Rattle.poly_terms.specs.Keys.{all_products, IsMergedFrom, IsModest, IsPowerAt}
use Rattle.poly_terms.specs.Totals.{IsSamePolynomial}
use Rattle.poly_terms.proofs.KeyLaws.{degree-merged-products, same-products-at}
use Rattle.poly_terms.proofs.TotalLaws.{same-sums, same-from_sum, same-products}
use Rattle.poly_terms.proofs.FormLaws.{narrow-bounded, shorter-sum_of, degree-sum_of}

-- the next packed monomial is the next one to be added
pub unpacked-next : (table : List ℕ) (es : List Keyed) (d : Keyed) (k : ℕ) (m : Monomial) (ts us whole : Polynomial) → k < length es
    → m ≡ monomial_at table (get_or es k d) → us ≡ added m ts
    → all_added ts (monomials_at table (drop k es)) ≡ whole → all_added us (monomials_at table (drop (k + 1) es)) ≡ whole
unpacked-next table es d k m ts us whole l is e w =
    ap (λ (ns : Polynomial). all_added ns (monomials_at table (drop (k + 1) es))) e
    ∙ (ap (λ (n : Monomial). all_added (added n ts) (monomials_at table (drop (k + 1) es))) is
    ∙ (sym (ap (λ (fs : List Keyed). all_added ts (monomials_at table fs)) (drop_more es k d l)) ∙ w))

-- the number 0 has no variables
factors-zero : (table : List ℕ) → factors_at table 0 ≡ []
factors-zero [] = refl
factors-zero (v ∷ vs) = factors-zero vs

-- the key without factors has no variables
pub factors-none : (table : List ℕ) → factors_at table (number_of no_factors) ≡ []
factors-none table = ap (factors_at table) (let n : number_of no_factors ≡ 0 = omega arith in n) ∙ factors-zero table

-- if nothing is left to be unpacked, what has been unpacked is the whole
pub nothing-left : (vars rest whole : List ℕ) → rest ≡ [] → vars ++ rest ≡ whole → vars ≡ whole
nothing-left vars rest whole e h = sym (append-nil vars) ∙ (ap (λ (us : List ℕ). vars ++ us) (sym e) ∙ h)

-- a polynomial within the limits has no fault
none-within : (q : Polynomial) (k : ℕ) → has_large q ≡ false → length q ≤ monomial_limit → degree_of q ≤ degree_limit → k ≤ degree_limit
    → fault_in q k ≡ None
none-within q k h l d e = go (has_large q) (nat_lt monomial_limit (length q)) (nat_lt degree_limit k) (nat_lt degree_limit (degree_of q)) h few low high
  where
    few : nat_lt monomial_limit (length q) ≡ false
    few = grind (arith, nat_tests)

    low : nat_lt degree_limit k ≡ false
    low = grind (arith, nat_tests)

    high : nat_lt degree_limit (degree_of q) ≡ false
    high = grind (arith, nat_tests)

    go : (a b c d : Bool) → a ≡ false → b ≡ false → c ≡ false → d ≡ false
        → (if a then Some LargeCoefficient else (if b then Some ManyTerms else (if c || d then Some HighDegree else None))) ≡ None
    go a b c d e f g h =
        λ i. if e i then Some LargeCoefficient else (if f i then Some ManyTerms else (if g i || h i then Some HighDegree else None))

-- a small polynomial with an exponent of at most 8 has no fault
pub none-small : (q : Polynomial) (k : ℕ) → IsSmall q → k ≤ degree_limit → fault_in q k ≡ None
none-small q k h l = none-within q k (narrow-bounded q h.coefficients) h.terms h.degree l

-- one factor more gives the next power, if the lower one is modest
pub next-power : (table : List ℕ) (factor before seen used es : List Keyed) (k : ℕ) → IsPowerAt table factor k before → seen ≡ before
    → used ≡ before → IsModest table seen → IsMergedFrom es (all_products used factor) → IsPowerAt table factor (k + 1) es
next-power table factor before seen used es k h s u m p =
    subst (λ (n : ℕ). IsPowerAt table factor n es) (let e : suc k ≡ k + 1 = omega arith in e)
    (record {
      before = before;
      lower = h;
      modest = subst (IsModest table) s m;
      product = subst (λ (fs : List Keyed). IsMergedFrom es (all_products fs factor)) u p;
    })

-- the degree of a list that represents a power is at most the exponent times the factor's degree
pub degree-power-at : (table : List ℕ) (factor : List Keyed) (n : ℕ) (es : List Keyed) → ascend_from 0 table ≡ true
    → n * degree_of (monomials_at table factor) ≤ degree_limit → IsPowerAt table factor n es
    → degree_of (monomials_at table es) ≤ n * degree_of (monomials_at table factor)
degree-power-at table factor zero es a d h =
    omega (arith, ap (λ (fs : List Keyed). degree_of (monomials_at table fs)) h, ap length (factors-none table))
degree-power-at table factor (suc n) es a d h =
    let lower = degree-power-at table factor n h.before a (omega (arith, d)) h.lower in
    omega (arith, lower, degree-merged-products table h.before factor es a (omega (arith, d, lower)) h.product)

-- the sum of a list that represents a power is the power of the factor's polynomial
pub power-at : (table : List ℕ) (factor : List Keyed) (p : Polynomial) (n : ℕ) (es : List Keyed) → ascend_from 0 table ≡ true
    → IsSamePolynomial (monomials_at table factor) p → n * degree_of (monomials_at table factor) ≤ degree_limit → IsPowerAt table factor n es
    → sum_of [] (monomials_at table es) ≡ power_of p n
power-at table factor p zero es a s d h =
    ap (λ (fs : List Keyed). sum_of [] (monomials_at table fs)) h
    ∙ ap (λ (vs : List ℕ). sum_of [] (record { coef = pos 1; vars = vs } ∷ [])) (factors-none table)
power-at table factor p (suc n) es a s d h =
    let q = monomials_at table factor in
    let ms = monomials_at table h.before in
    let below : n * degree_of q ≤ degree_limit = omega (arith, d) in
    let lower = power-at table factor p n h.before a s below h.lower in
    let few : degree_of ms + degree_of q ≤ 15 = omega (arith, d, degree-power-at table factor n h.before a below h.lower) in
    same-sums (monomials_at table es) (products (power_of p n) p)
    (record {
      totals = λ g. (same-products-at table h.before factor es a few h.product).totals g
          ∙ (same-products ms (power_of p n) q p (same-from_sum ms (power_of p n) lower) s).totals g;
    })

-- the sum of a modest list of low degree has no fault
pub none-modest : (table : List ℕ) (es : List Keyed) (q : Polynomial) (k : ℕ) → IsModest table es → sum_of [] (monomials_at table es) ≡ q
    → degree_of (monomials_at table es) ≤ degree_limit → k ≤ degree_limit → fault_in q k ≡ None
none-modest table es q k h e d l =
    let ms = monomials_at table es in
    subst (λ (r : Polynomial). fault_in r k ≡ None) e
    (none-within (sum_of [] ms) k h.coefficients
    (omega (arith, shorter-sum_of ms, length-map es (monomial_at table), h.terms))
    (omega (arith, degree-sum_of ms, d)) l)

-- the powers below one that a list represents have no fault
pub none-below : (table : List ℕ) (factor : List Keyed) (p : Polynomial) (n : ℕ) (es : List Keyed) → ascend_from 0 table ≡ true
    → IsSamePolynomial (monomials_at table factor) p → suc n * degree_of (monomials_at table factor) ≤ degree_limit → n ≤ degree_limit
    → IsPowerAt table factor (suc n) es → faults_of_powers p n ≡ None
none-below table factor p zero es a s d l h = refl
none-below table factor p (suc n) es a s d l h =
    let below : suc n * degree_of (monomials_at table factor) ≤ degree_limit = omega (arith, d) in
    (λ i. or_else (none-below table factor p n h.before a s below (omega (arith, l)) h.lower i)
    (none-modest table h.before (power_of p (suc n)) (suc n) h.modest (power-at table factor p (suc n) h.before a s below h.lower)
    (omega (arith, below, degree-power-at table factor (suc n) h.before a below h.lower)) l i))

-- a list that represents a power, the first or a greater one, has it as its sum, and no lower power has a fault
pub power-without : (table : List ℕ) (factor : List Keyed) (n : ℕ) (es : List Keyed) (p q : Polynomial) → ascend_from 0 table ≡ true
    → monomials_at table factor ≡ p → n * degree_of p ≤ degree_limit → 1 ≤ n → n ≤ degree_limit → IsPowerAt table factor n es
    → q ≡ sum_of [] (monomials_at table es) → IsPowerWithout p n q
power-without table factor zero es p q a e d k l h is = absurd (omega (arith, k))
power-without table factor (suc n) es p q a e d k l h is =
    subst (λ (r : Polynomial). IsPowerWithout r (suc n) q) e
    (record {
      power = power;
      faults = ap (λ (f : Option Fault). or_else f (fault_in (power_of (monomials_at table factor) (suc n)) (suc n))) none
          ∙ ap (λ (r : Polynomial). fault_in r (suc n)) (sym power);
    })
  where
    itself : IsSamePolynomial (monomials_at table factor) (monomials_at table factor)
    itself = record { totals = λ g. refl }

    low : suc n * degree_of (monomials_at table factor) ≤ degree_limit
    low = subst (λ (r : Polynomial). suc n * degree_of r ≤ degree_limit) (sym e) d

    none : faults_of_powers (monomials_at table factor) n ≡ None
    none = none-below table factor (monomials_at table factor) n es a itself low (omega (arith, l)) h

    power : q ≡ power_of (monomials_at table factor) (suc n)
    power = is ∙ power-at table factor (monomials_at table factor) (suc n) es a itself low h

-- A sum of products that another one covers is at most that one.
use Rattle.std.proofs.Common.{◌≡◌, ℕ, ◌+◌, ◌-◌, ◌*◌, ◌<◌, ◌≤◌, ◌⊎◌, inl, inr, Bool, true, false, List, [], ◌∷◌}
use Rattle.std.proofs.Common.{Option, Some, None, max, refl, ap, subst, ◌∙◌, arith}
use Rattle.std.specs.Prelude.{ℤ, ◌==◌, nat_le, if◌then◌else◌, option_map}
use Rattle.std.proofs.Math.Nat.{mul-le-mul_left, mul-le-mul_right, le_trans}
use Rattle.std.proofs.lemmas.Bool.{and_parts, or_cases, cases_lt, leb-true, eqb-true}
use Rattle.poly_terms.specs.model.Terms.{Term}
use Rattle.poly_terms.specs.model.Polynomials.{Polynomial, polynomial_value}
use Rattle.signed_bounds.specs.Bounds.{Signed, Constant, PositivePart, positive_part}
use Rattle.signed_bounds.specs.Bounds.{SignedParts, NoParts, Part, signed_val, signed_maximum}
use Rattle.signed_bounds.specs.Safe.{IsSafe}
use Rattle.signed_bounds.specs.Products.{Product, factors_val, products_val, is_comparable}
use Rattle.signed_bounds.specs.Fits.{is_equal, factor_fits, maximum_parts}
use Rattle.signed_bounds.specs.Covers.{without_first, or_else, without_equal, without_fitting, are_matched}
use Rattle.signed_bounds.specs.Covers.{factors_equal, factors_fit, missing_times, used_up, missing_products, all_used_up}
use Rattle.signed_bounds.specs.Covers.{whole_polynomial, fits_polynomial, fits_maximum}
use Rattle.signed_bounds.specs.Covers.{is_below_constant, fits_whole, occurs_never, used_whole, without_product, dominated}
use Rattle.signed_bounds.specs.Covers.{covers}
use Rattle.signed_bounds.proofs.Choices.{contradiction, none_is_no_value, option_map-Some}
use Rattle.signed_bounds.proofs.PolynomialTerms.{weighted-le}
use Rattle.signed_bounds.proofs.FitLaws.{is_equal-le, factor_fits-le, maximum_parts-le}

-- the factors without the first one that passes a test, times a bound that is at most it, are at most all factors
pub without_first-le : (test : Signed → Bool) (a : Signed)
    → ((b : Signed) → test b ≡ true → (x : List ℤ) → signed_val a x ≤ signed_val b x)
    → (bs rest : List Signed) → without_first test bs ≡ Some rest
    → (x : List ℤ) → signed_val a x * factors_val rest x ≤ factors_val bs x
without_first-le test a sound [] rest e x = none_is_no_value e
without_first-le test a sound (b ∷ bs) rest e x =
    go (test b) refl e (λ r k. without_first-le test a sound bs r k x)
  where
    go : (t : Bool) → test b ≡ t
        → (if t then Some bs else option_map (λ r. b ∷ r) (without_first test bs)) ≡ Some rest
        → ((r : List Signed) → without_first test bs ≡ Some r
        → signed_val a x * factors_val r x ≤ factors_val bs x)
        → signed_val a x * factors_val rest x ≤ signed_val b x * factors_val bs x
    go true t k later =
        let same : bs ≡ rest = cc in
        subst (λ (r : List Signed). signed_val a x * factors_val r x ≤ signed_val b x * factors_val bs x) same
        (mul-le-mul_right (factors_val bs x) (sound b t x))
    go false t k later =
        let found = option_map-Some (λ r. b ∷ r) (without_first test bs) rest k in
        subst (λ (r : List Signed). signed_val a x * factors_val r x ≤ signed_val b x * factors_val bs x) found.2
        (let h = mul-le-mul_left (signed_val b x) (later found.0 found.1) in omega arith)

-- factors that take others one by one have at most their product, if each factor times the factors left is at most
-- those that it takes from
pub are_matched-le : (without : Signed → List Signed → Option (List Signed))
    → ((a : Signed) (bs rest : List Signed) → without a bs ≡ Some rest
    → (x : List ℤ) → signed_val a x * factors_val rest x ≤ factors_val bs x)
    → (fs gs : List Signed) → are_matched without fs gs ≡ true → (x : List ℤ) → factors_val fs x ≤ factors_val gs x
are_matched-le without sound [] [] e x = omega arith
are_matched-le without sound [] (g ∷ gs) e x = contradiction e
are_matched-le without sound (f ∷ fs) gs e x =
    go (without f gs) refl e (λ rest k. are_matched-le without sound fs rest k x)
  where
    go : (o : Option (List Signed)) → without f gs ≡ o
        → (elim o [ None ↦ false | Some rest ↦ are_matched without fs rest ]) ≡ true
        → ((rest : List Signed) → are_matched without fs rest ≡ true → factors_val fs x ≤ factors_val rest x)
        → signed_val f x * factors_val fs x ≤ factors_val gs x
    go None t k later = contradiction k
    go (Some rest) t k later =
        let h = mul-le-mul_left (signed_val f x) (later rest k) in
        let taken = sound f gs rest t x in
        le_trans h taken

-- arithmetic for taking copies: copies of a number that is at most another one
taken : (f g n m used more missing : ℕ) → f ≤ g → (n - m) * f + used ≤ more + missing
    → n * f + ((m - n) * g + used) ≤ (m * g + more) + missing
taken f g n m used more missing h k = go (cases_lt m n)
  where
    go : (m < n) ⊎ (n ≤ m) → n * f + ((m - n) * g + used) ≤ (m * g + more) + missing
    go (inl above) =
        let l : m * f ≤ m * g = mul-le-mul_left m h in
        let whole : n ≡ m + (n - m) = omega arith in
        let none : m - n ≡ 0 = omega arith in
        omega (arith, ap (λ (v : ℕ). v * f) whole, ap (λ (v : ℕ). v * g) none)
    go (inr below) =
        let l : n * f ≤ n * g = mul-le-mul_left n h in
        let whole : m ≡ n + (m - n) = omega arith in
        let none : n - m ≡ 0 = omega arith in
        omega (arith, ap (λ (v : ℕ). v * g) whole, ap (λ (v : ℕ). v * f) none)

-- n times the factors and the products left are at most the products before and the missing times the factors, if
-- factors that pass the test have at least that product
pub used_up-le : (test : List Signed → List Signed → Bool) (fs : List Signed) (x : List ℤ)
    → ((gs : List Signed) → test fs gs ≡ true → factors_val fs x ≤ factors_val gs x)
    → (n : ℕ) (qs : List Product)
    → n * factors_val fs x + products_val (used_up test n fs qs) x
    ≤ products_val qs x + missing_times test n fs qs * factors_val fs x
used_up-le test fs x sound n [] = omega arith
used_up-le test fs x sound n (q ∷ qs) = go (test fs q.factors) refl (λ m. used_up-le test fs x sound m qs)
  where
    go : (t : Bool) → test fs q.factors ≡ t
        → ((m : ℕ) → m * factors_val fs x + products_val (used_up test m fs qs) x
        ≤ products_val qs x + missing_times test m fs qs * factors_val fs x)
        → n * factors_val fs x
        + ((if t then q.times - n else q.times) * factors_val q.factors x
        + products_val (used_up test (if t then n - q.times else n) fs qs) x)
        ≤ (q.times * factors_val q.factors x + products_val qs x)
        + missing_times test (if t then n - q.times else n) fs qs * factors_val fs x
    go true t later = taken (factors_val fs x) (factors_val q.factors x) n q.times
        (products_val (used_up test (n - q.times) fs qs) x) (products_val qs x)
        (missing_times test (n - q.times) fs qs * factors_val fs x) (sound q.factors t) (later (n - q.times))
    go false t later = let h = later n in omega arith

-- n is at most m times the maximum of parts of which one is a constant that is large enough
pub is_below_constant-le : (n m : ℕ) (bs : SignedParts) → is_below_constant n m bs ≡ true → (x : List ℤ)
    → n ≤ m * signed_maximum bs x
is_below_constant-le n m NoParts e x = contradiction e
is_below_constant-le n m (Part (Constant c) bs) e x =
    go (or_cases (nat_le n (m * c)) (is_below_constant n m bs) e) (λ k. is_below_constant-le n m bs k x)
  where
    go : (nat_le n (m * c) ≡ true) ⊎ (is_below_constant n m bs ≡ true)
        → (is_below_constant n m bs ≡ true → n ≤ m * signed_maximum bs x)
        → n ≤ m * max c (signed_maximum bs x)
    go (inl k) later =
        let h : c ≤ max c (signed_maximum bs x) = omega arith in
        le_trans (leb-true n (m * c) k) (mul-le-mul_left m h)
    go (inr k) later =
        let h : signed_maximum bs x ≤ max c (signed_maximum bs x) = omega arith in
        le_trans (later k) (mul-le-mul_left m h)
is_below_constant-le n m (Part b bs) e x =
    let h : signed_maximum bs x ≤ max (signed_val b x) (signed_maximum bs x) = omega arith in
    le_trans (is_below_constant-le n m bs e x) (mul-le-mul_left m h)

-- the positive part of a polynomial, or 1 if there is none
abbrev part_at : List ℤ → Option Polynomial → ℕ
part_at x None = 1
part_at x (Some q) = positive_part (polynomial_value q x)

-- the product of factors that are one polynomial is its positive part
whole_polynomial-value : (fs : List Signed) (p : Polynomial) → whole_polynomial fs ≡ Some p → (x : List ℤ)
    → factors_val fs x ≡ positive_part (polynomial_value p x)
whole_polynomial-value [] p e x =
    ap (part_at x) e
whole_polynomial-value (PositivePart q ∷ []) p e x =
    omega (arith, ap (part_at x) e)
whole_polynomial-value _ p e x = none_is_no_value e

module _ (is_safe : Term → Bool) (safe : IsSafe is_safe) where
  -- a bound times the factors without an equal one are at most all factors
  pub without_equal-le : (a : Signed) (bs rest : List Signed) → without_equal is_safe a bs ≡ Some rest
      → (x : List ℤ) → signed_val a x * factors_val rest x ≤ factors_val bs x
  without_equal-le a = without_first-le (is_equal is_safe a) a (is_equal-le is_safe safe a)

  -- a bound times the factors without one that it fits are at most all factors
  pub without_fitting-le : (a : Signed) (bs rest : List Signed) → without_fitting is_safe a bs ≡ Some rest
      → (x : List ℤ) → signed_val a x * factors_val rest x ≤ factors_val bs x
  without_fitting-le a bs rest e x = go (without_equal is_safe a bs) refl e
    where
      go : (o : Option (List Signed)) → without_equal is_safe a bs ≡ o
          → or_else o (without_first (factor_fits is_safe a) bs) ≡ Some rest
          → signed_val a x * factors_val rest x ≤ factors_val bs x
      go None t k = without_first-le (factor_fits is_safe a) a (factor_fits-le is_safe safe a) bs rest k x
      go (Some first) t k = without_equal-le a bs rest (t ∙ k) x

  -- the product of factors that are equal to others is at most theirs
  pub factors_equal-le : (fs gs : List Signed) → factors_equal is_safe fs gs ≡ true → (x : List ℤ)
      → factors_val fs x ≤ factors_val gs x
  factors_equal-le = are_matched-le (without_equal is_safe) without_equal-le

  -- the product of factors that fit others is at most theirs
  pub factors_fit-le : (fs gs : List Signed) → factors_fit is_safe fs gs ≡ true → (x : List ℤ)
      → factors_val fs x ≤ factors_val gs x
  factors_fit-le = are_matched-le (without_fitting is_safe) without_fitting-le

  -- if n times one polynomial fits m times another, the products are at most each other
  fits_polynomial-le : (n m : ℕ) (f g : Option Polynomial) (u v : ℕ) (x : List ℤ)
      → ((p : Polynomial) → f ≡ Some p → u ≡ positive_part (polynomial_value p x))
      → ((p : Polynomial) → g ≡ Some p → v ≡ positive_part (polynomial_value p x))
      → fits_polynomial is_safe n f m g ≡ true → n * u ≤ m * v
  fits_polynomial-le n m (Some f) (Some h) u v x is_u is_v e =
      let k = weighted-le is_safe safe n m f h e x in
      omega (arith, ap (λ (w : ℕ). n * w) (is_u f refl), ap (λ (w : ℕ). m * w) (is_v h refl))
  fits_polynomial-le n m _ _ u v x is_u is_v e = contradiction e

  -- a number that fits a maximum is at most it
  fits_maximum-le : (n : ℕ) (fs : List Signed) (m : ℕ) (gs : List Signed) → fits_maximum n fs m gs ≡ true
      → (x : List ℤ) → n * factors_val fs x ≤ m * factors_val gs x
  fits_maximum-le n [] m (b ∷ []) e x =
      let k = is_below_constant-le n m (maximum_parts b) e x in
      let l = mul-le-mul_left m (maximum_parts-le is_safe safe b x) in
      omega arith
  fits_maximum-le n _ m _ e x = contradiction e

  -- a product that fits another as a whole is at most it
  pub fits_whole-le : (n : ℕ) (fs : List Signed) (m : ℕ) (gs : List Signed) → fits_whole is_safe n fs m gs ≡ true
      → (x : List ℤ) → n * factors_val fs x ≤ m * factors_val gs x
  fits_whole-le n fs m gs e x =
      go (or_cases (fits_polynomial is_safe n (whole_polynomial fs) m (whole_polynomial gs)) (fits_maximum n fs m gs) e)
    where
      go : (fits_polynomial is_safe n (whole_polynomial fs) m (whole_polynomial gs) ≡ true)
          ⊎ (fits_maximum n fs m gs ≡ true)
          → n * factors_val fs x ≤ m * factors_val gs x
      go (inl k) = fits_polynomial-le n m (whole_polynomial fs) (whole_polynomial gs) (factors_val fs x)
          (factors_val gs x) x (λ p h. whole_polynomial-value fs p h x) (λ p h. whole_polynomial-value gs p h x) k
      go (inr k) = fits_maximum-le n fs m gs k x

  -- a product and the products left after it was taken from one as a whole are at most all products
  pub used_whole-le : (p : Product) (qs rest : List Product) → used_whole is_safe p qs ≡ Some rest
      → (x : List ℤ) → p.times * factors_val p.factors x + products_val rest x ≤ products_val qs x
  used_whole-le p [] rest e x = none_is_no_value e
  used_whole-le p (q ∷ qs) rest e x =
      go (fits_whole is_safe p.times p.factors q.times q.factors) refl e (λ r k. used_whole-le p qs r k x)
    where
      go : (t : Bool) → fits_whole is_safe p.times p.factors q.times q.factors ≡ t
          → (if t then Some (occurs_never q ∷ qs)
          else option_map (λ r. q ∷ r) (used_whole is_safe p qs)) ≡ Some rest
          → ((r : List Product) → used_whole is_safe p qs ≡ Some r
          → p.times * factors_val p.factors x + products_val r x ≤ products_val qs x)
          → p.times * factors_val p.factors x + products_val rest x
          ≤ q.times * factors_val q.factors x + products_val qs x
      go true t k later =
          let same : occurs_never q ∷ qs ≡ rest = cc in
          omega (
            arith,
            fits_whole-le p.times p.factors q.times q.factors t x,
            ap (λ (r : List Product). products_val r x) same,
          )
      go false t k later =
          let found = option_map-Some (λ r. q ∷ r) (used_whole is_safe p qs) rest k in
          omega (arith, later found.0 found.1, ap (λ (r : List Product). products_val r x) found.2)

  -- a product and the products left after it was taken from them are at most all products
  pub without_product-le : (p : Product) (qs rest : List Product) → without_product is_safe p qs ≡ Some rest
      → (x : List ℤ) → p.times * factors_val p.factors x + products_val rest x ≤ products_val qs x
  without_product-le p qs rest e x = go (missing_times (factors_fit is_safe) p.times p.factors qs == 0) refl e
    where
      go : (t : Bool) → (missing_times (factors_fit is_safe) p.times p.factors qs == 0) ≡ t
          → (if t then Some (used_up (factors_fit is_safe) p.times p.factors qs) else used_whole is_safe p qs)
          ≡ Some rest
          → p.times * factors_val p.factors x + products_val rest x ≤ products_val qs x
      go true t k =
          let none = eqb-true (missing_times (factors_fit is_safe) p.times p.factors qs) 0 t in
          let same : used_up (factors_fit is_safe) p.times p.factors qs ≡ rest = cc in
          omega (
            arith,
            used_up-le (factors_fit is_safe) p.factors x (λ gs l. factors_fit-le p.factors gs l x) p.times qs,
            ap (λ (v : ℕ). v * factors_val p.factors x) none,
            ap (λ (r : List Product). products_val r x) same,
          )
      go false t k = used_whole-le p qs rest k x

  -- a dominated sum is at most the other one
  pub dominated-le : (ps qs : List Product) → dominated is_safe ps qs ≡ true → (x : List ℤ)
      → products_val ps x ≤ products_val qs x
  dominated-le [] qs e x = omega arith
  dominated-le (p ∷ ps) qs e x = go (without_product is_safe p qs) refl e (λ rest k. dominated-le ps rest k x)
    where
      go : (o : Option (List Product)) → without_product is_safe p qs ≡ o
          → (elim o [ None ↦ false | Some rest ↦ dominated is_safe ps rest ]) ≡ true
          → ((rest : List Product) → dominated is_safe ps rest ≡ true → products_val ps x ≤ products_val rest x)
          → p.times * factors_val p.factors x + products_val ps x ≤ products_val qs x
      go None u k later = contradiction k
      go (Some rest) u k later = omega (arith, without_product-le p qs rest u x, later rest k)

  -- the products that a list takes from another, and the products left there, are at most the other and the products
  -- missing
  pub all_used_up-le : (ps qs : List Product) (x : List ℤ)
      → products_val ps x + products_val (all_used_up (factors_equal is_safe) ps qs) x
      ≤ products_val qs x + products_val (missing_products (factors_equal is_safe) ps qs) x
  all_used_up-le [] qs x = omega arith
  all_used_up-le (p ∷ ps) qs x =
      omega (
        arith,
        used_up-le (factors_equal is_safe) p.factors x (λ gs l. factors_equal-le p.factors gs l x) p.times qs,
        all_used_up-le ps (used_up (factors_equal is_safe) p.times p.factors qs) x,
      )

  -- a sum that is covered is at most the other one
  pub covers-le : (ps qs : List Product) → covers is_safe ps qs ≡ true → (x : List ℤ)
      → products_val ps x ≤ products_val qs x
  covers-le ps qs e x =
      let missing = missing_products (factors_equal is_safe) ps qs in
      let left = all_used_up (factors_equal is_safe) ps qs in
      let both = and_parts (is_comparable ps qs) (dominated is_safe missing left) e in
      omega (arith, dominated-le missing left both.1 x, all_used_up-le ps qs x)

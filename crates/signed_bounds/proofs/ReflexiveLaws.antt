-- A bound that fits itself is within itself: each of its products is covered by itself.
use Rattle.std.proofs.Common.{◌≡◌, ℕ, ◌+◌, ◌-◌, ◌*◌, ◌≤◌, Bool, true, false, List, [], ◌∷◌, ◌++◌, map}
use Rattle.std.proofs.Common.{Option, Some, None, refl, ap, ap₂, sym, ◌∙◌, subst, append_assoc, append-nil, arith}
use Rattle.std.specs.Prelude.{◌==◌, ◌&&◌, ◌||◌, nat_le, if◌then◌else◌, option_map}
use Rattle.std.specs.List.{AllByRecursion}
use Rattle.std.proofs.lemmas.Bool.{and_from, and_parts, or_left, or_right, le-leb, eq-eqb}
use Rattle.poly_terms.specs.model.Terms.{Term}
use Rattle.poly_terms.specs.model.Polynomials.{Polynomial}
use Rattle.signed_bounds.specs.Bounds.{Signed, Constant, PositivePart, SumOf, ProductOf, MaximumOf, MinimumOf, Quotient}
use Rattle.signed_bounds.specs.Bounds.{Root, PowerOf, SignedParts, NoParts, Part}
use Rattle.signed_bounds.specs.Limits.{comparison_limit, quotient_limit}
use Rattle.signed_bounds.specs.Fits.{fits, all_fit, is_equal}
use Rattle.signed_bounds.specs.Products.{Product, number, factor, joined, multiplied, scaled, factor_total, is_comparable}
use Rattle.signed_bounds.specs.Products.{constant_part, part_or_number, products_of}
use Rattle.signed_bounds.specs.Products.{products_of_sum, multiplied_by_parts, is_multipliable}
use Rattle.signed_bounds.specs.Covers.{without_first, without_equal, are_matched, factors_equal, factors_fit}
use Rattle.signed_bounds.specs.Covers.{missing_times, used_up, missing_products, all_used_up, occurs_never, used_whole}
use Rattle.signed_bounds.specs.Covers.{without_product, dominated, covers}
use Rattle.signed_bounds.specs.Within.{numerator, once_less, quotient_count, is_covered_with_numerator}
use Rattle.signed_bounds.specs.Within.{is_covered_by_quotient, is_covered_rounded, is_covered_by_some, is_covered}
use Rattle.signed_bounds.specs.Within.{within}
use Rattle.signed_bounds.specs.Reflexive.{IsComparedWithItself, BoundsAreWithinThemselves}

-- a property of all elements of two lists is one of all elements of their append
pub all-append : {A : Type 0} (P : A → Type 0) (xs ys : List A) → AllByRecursion P xs → AllByRecursion P ys
    → AllByRecursion P (xs ++ ys)
all-append P [] ys h k = k
all-append P (x ∷ xs) ys (first, others) k = (first, all-append P xs ys others k)

-- a product that occurs 0 times
abbrev OccursNever : Product → Type 0
OccursNever q = q.times ≡ 0

-- of a product that is needed 0 times nothing is missing
missing_times-zero : (test : List Signed → List Signed → Bool) (fs : List Signed) (qs : List Product)
    → missing_times test 0 fs qs ≡ 0
missing_times-zero test fs [] = refl
missing_times-zero test fs (q ∷ qs) = go (test fs q.factors) (missing_times-zero test fs qs)
  where
    go : (t : Bool) → missing_times test 0 fs qs ≡ 0 → missing_times test (if t then 0 - q.times else 0) fs qs ≡ 0
    go true ih =
        let none : 0 - q.times ≡ 0 = omega arith in
        ap (λ (n : ℕ). missing_times test n fs qs) none ∙ ih
    go false ih = ih

-- taking a product 0 times leaves the list as it was
used_up-zero : (test : List Signed → List Signed → Bool) (fs : List Signed) (qs : List Product)
    → used_up test 0 fs qs ≡ qs
used_up-zero test fs [] = refl
used_up-zero test fs (q ∷ qs) = go (test fs q.factors) (used_up-zero test fs qs)
  where
    go : (t : Bool) → used_up test 0 fs qs ≡ qs
        → record { times = if t then q.times - 0 else q.times; factors = q.factors }
        ∷ used_up test (if t then 0 - q.times else 0) fs qs ≡ q ∷ qs
    go true ih =
        let none : 0 - q.times ≡ 0 = omega arith in
        let same : q.times - 0 ≡ q.times = omega arith in
        ap₂ (λ (n : ℕ) (rest : List Product). record { times = n; factors = q.factors } ∷ rest) same
        (ap (λ (n : ℕ). used_up test n fs qs) none ∙ ih)
    go false ih = ap (λ (rest : List Product). q ∷ rest) ih

-- products that occur 0 times cover nothing of other factors
missing_times-occurs_never : (test : List Signed → List Signed → Bool) (n : ℕ) (fs : List Signed) (zs qs : List Product)
    → AllByRecursion OccursNever zs → missing_times test n fs (zs ++ qs) ≡ missing_times test n fs qs
missing_times-occurs_never test n fs [] qs h = refl
missing_times-occurs_never test n fs (z ∷ zs) qs (first, others) =
    go (test fs z.factors) (missing_times-occurs_never test n fs zs qs others)
  where
    go : (t : Bool) → missing_times test n fs (zs ++ qs) ≡ missing_times test n fs qs
        → missing_times test (if t then n - z.times else n) fs (zs ++ qs) ≡ missing_times test n fs qs
    go true ih =
        let same : n - z.times ≡ n = omega (arith, first) in
        ap (λ (m : ℕ). missing_times test m fs (zs ++ qs)) same ∙ ih
    go false ih = ih

used_up-occurs_never : (test : List Signed → List Signed → Bool) (n : ℕ) (fs : List Signed) (zs qs : List Product)
    → AllByRecursion OccursNever zs → used_up test n fs (zs ++ qs) ≡ used_up test n fs zs ++ used_up test n fs qs
used_up-occurs_never test n fs [] qs h = refl
used_up-occurs_never test n fs (z ∷ zs) qs (first, others) =
    go (test fs z.factors) (used_up-occurs_never test n fs zs qs others)
  where
    left : Bool → Product
    left t = record { times = if t then z.times - n else z.times; factors = z.factors }

    go : (t : Bool) → used_up test n fs (zs ++ qs) ≡ used_up test n fs zs ++ used_up test n fs qs
        → left t ∷ used_up test (if t then n - z.times else n) fs (zs ++ qs)
        ≡ left t ∷ (used_up test (if t then n - z.times else n) fs zs ++ used_up test n fs qs)
    go true ih =
        let same : n - z.times ≡ n = omega (arith, first) in
        ap (λ (rest : List Product). left true ∷ rest)
        (ap (λ (m : ℕ). used_up test m fs (zs ++ qs)) same
        ∙ ih
        ∙ ap (λ (m : ℕ). used_up test m fs zs ++ used_up test n fs qs) (sym same))
    go false ih = ap (λ (rest : List Product). left false ∷ rest) ih

-- products that occur 0 times still do after some are taken
occurs_never-used_up : (test : List Signed → List Signed → Bool) (n : ℕ) (fs : List Signed) (zs : List Product)
    → AllByRecursion OccursNever zs → AllByRecursion OccursNever (used_up test n fs zs)
occurs_never-used_up test n fs [] h = tt
occurs_never-used_up test n fs (z ∷ zs) (first, others) =
    go (test fs z.factors) (λ m. occurs_never-used_up test m fs zs others)
  where
    go : (t : Bool) → ((m : ℕ) → AllByRecursion OccursNever (used_up test m fs zs))
        → ((if t then z.times - n else z.times) ≡ 0)
        × AllByRecursion OccursNever (used_up test (if t then n - z.times else n) fs zs)
    go true ih = (omega (arith, first), ih (n - z.times))
    go false ih = (first, ih n)

-- a product covers itself completely, so nothing is taken of the products after it
missing_times-same : (test : List Signed → List Signed → Bool) (p : Product) (qs : List Product)
    → test p.factors p.factors ≡ true → missing_times test p.times p.factors (p ∷ qs) ≡ 0
missing_times-same test p qs e =
    let none : p.times - p.times ≡ 0 = omega arith in
    ap (λ (t : Bool). missing_times test (if t then p.times - p.times else p.times) p.factors qs) e
    ∙ ap (λ (n : ℕ). missing_times test n p.factors qs) none
    ∙ missing_times-zero test p.factors qs

used_up-same : (test : List Signed → List Signed → Bool) (p : Product) (qs : List Product)
    → test p.factors p.factors ≡ true → used_up test p.times p.factors (p ∷ qs) ≡ occurs_never p ∷ qs
used_up-same test p qs e =
    let none : p.times - p.times ≡ 0 = omega arith in
    ap (λ (t : Bool). record { times = if t then p.times - p.times else p.times; factors = p.factors }
    ∷ used_up test (if t then p.times - p.times else p.times) p.factors qs) e
    ∙ ap (λ (n : ℕ). record { times = n; factors = p.factors } ∷ used_up test n p.factors qs) none
    ∙ ap (λ (rest : List Product). occurs_never p ∷ rest) (used_up-zero test p.factors qs)

-- the test passes for the factors of a product and themselves
abbrev PassesWithItself : (List Signed → List Signed → Bool) → Product → Type 0
PassesWithItself test p = test p.factors p.factors ≡ true

-- nothing is missing of products in a list that has them, whatever follows, if those before occur 0 times
missing_products-same : (test : List Signed → List Signed → Bool) (ps zs more : List Product)
    → AllByRecursion (PassesWithItself test) ps → AllByRecursion OccursNever zs
    → AllByRecursion OccursNever (missing_products test ps (zs ++ (ps ++ more)))
missing_products-same test [] zs more h k = tt
missing_products-same test (p ∷ ps) zs more (first, others) k =
    let all = p ∷ (ps ++ more) in
    let before = used_up test p.times p.factors zs ++ occurs_never p ∷ [] in
    let none : missing_times test p.times p.factors (zs ++ all) ≡ 0 =
    missing_times-occurs_never test p.times p.factors zs all k ∙ missing_times-same test p (ps ++ more) first in
    let left : used_up test p.times p.factors (zs ++ all) ≡ before ++ (ps ++ more) =
    used_up-occurs_never test p.times p.factors zs all k
    ∙ ap (λ (rest : List Product). used_up test p.times p.factors zs ++ rest) (used_up-same test p (ps ++ more) first)
    ∙ sym (append_assoc (used_up test p.times p.factors zs) (occurs_never p ∷ []) (ps ++ more)) in
    let occurs_never_before : AllByRecursion OccursNever before =
    all-append OccursNever (used_up test p.times p.factors zs) (occurs_never p ∷ [])
    (occurs_never-used_up test p.times p.factors zs k) (refl, tt) in (
      none,
      subst (λ (rest : List Product). AllByRecursion OccursNever (missing_products test ps rest)) (sym left)
          (missing_products-same test ps before more others occurs_never_before),
    )

-- the size of two sums joined is the sum of their sizes; and scaling a sum keeps its size
factor_total-append : (ps qs : List Product) → factor_total (ps ++ qs) ≡ factor_total ps + factor_total qs
factor_total-append [] qs = omega arith
factor_total-append (p ∷ ps) qs = omega (arith, factor_total-append ps qs)

factor_total-scaled : (n : ℕ) (ps : List Product) → factor_total (scaled n ps) ≡ factor_total ps
factor_total-scaled n [] = refl
factor_total-scaled n (p ∷ ps) = omega (arith, factor_total-scaled n ps)

module _ (is_safe : Term → Bool) where
  -- the factor fits itself
  abbrev FitsItself : Signed → Type 0
  FitsItself b = fits is_safe b b ≡ true

  -- all factors of a product fit themselves
  abbrev FactorsFitThemselves : Product → Type 0
  FactorsFitThemselves p = AllByRecursion FitsItself p.factors

  -- factors that fit themselves are equal to themselves, by the test
  factors_equal-same : (fs : List Signed) → AllByRecursion FitsItself fs → factors_equal is_safe fs fs ≡ true
  factors_equal-same [] h = refl
  factors_equal-same (f ∷ fs) (first, others) =
      ap (λ (t : Bool). elim (if t then Some fs else option_of t) [ None ↦ false | Some rest ↦ are_matched (without_equal is_safe) fs rest ])
      (and_from (fits is_safe f f) (fits is_safe f f) first first)
      ∙ factors_equal-same fs others
    where
      option_of : Bool → Option (List Signed)
      option_of t = option_map (λ rest. f ∷ rest) (without_first (is_equal is_safe f) fs)

  -- the test of equal factors passes for all products whose factors fit themselves
  products-pass : (ps : List Product) → AllByRecursion FactorsFitThemselves ps
      → AllByRecursion (PassesWithItself (factors_equal is_safe)) ps
  products-pass [] h = tt
  products-pass (p ∷ ps) (first, others) = (factors_equal-same p.factors first, products-pass ps others)

  -- products that occur 0 times are dominated by any products
  dominated-occurs_never : (ps qs : List Product) → AllByRecursion OccursNever ps → dominated is_safe ps qs ≡ true
  dominated-occurs_never [] qs h = refl
  dominated-occurs_never (p ∷ ps) qs (first, others) =
      ap (λ (o : Option (List Product)). elim o [ None ↦ false | Some rest ↦ dominated is_safe ps rest ]) found
      ∙ dominated-occurs_never ps (used_up (factors_fit is_safe) p.times p.factors qs) others
    where
      nothing : missing_times (factors_fit is_safe) p.times p.factors qs ≡ 0
      nothing =
          ap (λ (n : ℕ). missing_times (factors_fit is_safe) n p.factors qs) first
          ∙ missing_times-zero (factors_fit is_safe) p.factors qs

      found : without_product is_safe p qs ≡ Some (used_up (factors_fit is_safe) p.times p.factors qs)
      found =
          ap (λ (n : ℕ). if n == 0 then Some (used_up (factors_fit is_safe) p.times p.factors qs)
          else used_whole is_safe p qs) nothing

  -- a sum is covered by one that has all its products
  covers-same : (ps zs more : List Product) → AllByRecursion FactorsFitThemselves ps → AllByRecursion OccursNever zs
      → factor_total ps * factor_total (zs ++ (ps ++ more)) ≤ comparison_limit
      → covers is_safe ps (zs ++ (ps ++ more)) ≡ true
  covers-same ps zs more h k size =
      let qs = zs ++ (ps ++ more) in
      let missing = missing_products (factors_equal is_safe) ps qs in
      and_from (is_comparable ps qs) (dominated is_safe missing (all_used_up (factors_equal is_safe) ps qs))
      (le-leb (factor_total ps * factor_total qs) comparison_limit size)
      (dominated-occurs_never missing (all_used_up (factors_equal is_safe) ps qs)
      (missing_products-same (factors_equal is_safe) ps zs more (products-pass ps h) k))

  -- the factors of multiplied products fit themselves
  joined-fit : (p : Product) (qs : List Product) → FactorsFitThemselves p → AllByRecursion FactorsFitThemselves qs
      → AllByRecursion FactorsFitThemselves (map (joined p) qs)
  joined-fit p [] h k = tt
  joined-fit p (q ∷ qs) h (first, others) =
      (all-append FitsItself p.factors q.factors h first, joined-fit p qs h others)

  multiplied-fit : (ps qs : List Product) → AllByRecursion FactorsFitThemselves ps
      → AllByRecursion FactorsFitThemselves qs → AllByRecursion FactorsFitThemselves (multiplied ps qs)
  multiplied-fit [] qs h k = tt
  multiplied-fit (p ∷ ps) qs (first, others) k =
      all-append FactorsFitThemselves (map (joined p) qs) (multiplied ps qs) (joined-fit p qs first k)
      (multiplied-fit ps qs others k)

  -- the factors of the product of a positive part fit themselves
  part-fits : (p : Polynomial) (o : Option ℕ) → FitsItself (PositivePart p) → FactorsFitThemselves (part_or_number p o)
  part-fits p None h = (h, tt)
  part-fits p (Some n) h = tt

  mutual
    -- the factors of the products of a bound that fits itself fit themselves
    products_of-fit : (b : Signed) → FitsItself b → AllByRecursion FactorsFitThemselves (products_of b)
    products_of-fit (Constant c) h = (tt, tt)
    products_of-fit (PositivePart p) h = (part-fits p (constant_part p) h, tt)
    products_of-fit (SumOf bs) h = products_of_sum-fit bs h
    products_of-fit (ProductOf bs) h = multiplied_by_parts-fit bs (number 1 ∷ []) h (tt, tt)
    products_of-fit (MaximumOf bs) h = ((h, tt), tt)
    products_of-fit (MinimumOf b bs) h = ((h, tt), tt)
    products_of-fit (Quotient b d) h = ((h, tt), tt)
    products_of-fit (Root b) h = ((h, tt), tt)
    products_of-fit (PowerOf c e) h = ((h, tt), tt)

    products_of_sum-fit : (bs : SignedParts) → all_fit is_safe bs bs ≡ true
        → AllByRecursion FactorsFitThemselves (products_of_sum bs)
    products_of_sum-fit NoParts h = tt
    products_of_sum-fit (Part b bs) h =
        let both = and_parts (fits is_safe b b) (all_fit is_safe bs bs) h in
        all-append FactorsFitThemselves (products_of b) (products_of_sum bs) (products_of-fit b both.0)
        (products_of_sum-fit bs both.1)

    multiplied_by_parts-fit : (bs : SignedParts) (ps : List Product) → all_fit is_safe bs bs ≡ true
        → AllByRecursion FactorsFitThemselves ps → AllByRecursion FactorsFitThemselves (multiplied_by_parts bs ps)
    multiplied_by_parts-fit NoParts ps h k = k
    multiplied_by_parts-fit (Part b bs) ps h k =
        let both = and_parts (fits is_safe b b) (all_fit is_safe bs bs) h in
        multiplied_by_parts-fit bs (multiplied ps (products_of b)) both.1
        (multiplied-fit ps (products_of b) k (products_of-fit b both.0))

  -- a bound that fits itself is within itself
  within-itself : (b : Signed) → fits is_safe b b ≡ true → within is_safe 1 b b ≡ true
  within-itself b h = or_left (fits is_safe b b) (is_covered is_safe 1 b b) h

  -- with the divisor den, a bound is within its quotient by den
  within-quotient : (den : ℕ) (b : Signed) → IsComparedWithItself is_safe b
      → is_multipliable den (Quotient b den) ≡ true → within is_safe den b (Quotient b den) ≡ true
  within-quotient den b h limited =
      or_right ((den == 1) && fits is_safe b (Quotient b den)) (is_covered is_safe den b (Quotient b den))
      (and_from (is_multipliable 1 b && is_multipliable den (Quotient b den))
      (is_covered_rounded is_safe den ps qs || is_covered_by_some is_safe den ps qs)
      (and_from (is_multipliable 1 b) (is_multipliable den (Quotient b den)) h.multiplied limited)
      (or_right (is_covered_rounded is_safe den ps qs) (is_covered_by_some is_safe den ps qs) some))
    where
      ps : List Product
      ps = products_of b

      qs : List Product
      qs = factor (Quotient b den) ∷ []

      rest : List Product
      rest = scaled den (once_less (factor (Quotient b den)) ∷ [])

      found : numerator den 1 (Quotient b den ∷ []) ≡ Some b
      found = ap (λ (t : Bool). if t then Some b else None) (eq-eqb den den refl)

      few : nat_le (quotient_count den qs) quotient_limit ≡ true
      few =
          ap (λ (o : Option Signed). nat_le ((elim o [ None ↦ 0 | Some c ↦ 1 ]) + 0) quotient_limit) found

      size : factor_total ps * factor_total ([] ++ (ps ++ rest)) ≤ comparison_limit
      size =
          omega (arith, h.size, ap (λ (n : ℕ). factor_total ps * n) (factor_total-append ps rest))

      covered : is_covered_with_numerator is_safe den ps (Some b) (once_less (factor (Quotient b den)) ∷ []) ≡ true
      covered =
          and_from (is_multipliable 1 b) (covers is_safe ps (ps ++ rest)) h.multiplied
          (covers-same ps [] rest (products_of-fit b h.fits_itself) tt size)

      some : is_covered_by_some is_safe den ps qs ≡ true
      some =
          and_from (nat_le (quotient_count den qs) quotient_limit) (is_covered_by_quotient is_safe den ps [] qs) few
          (or_left
          (is_covered_with_numerator is_safe den ps (numerator den 1 (Quotient b den ∷ [])) (once_less (factor (Quotient b den)) ∷ []))
          (is_covered_by_quotient is_safe den ps qs [])
          (ap (λ (o : Option Signed). is_covered_with_numerator is_safe den ps o (once_less (factor (Quotient b den)) ∷ [])) found
          ∙ covered))

-- every bound that fits itself is within itself and within its quotients
pub bounds_are_within_themselves : BoundsAreWithinThemselves
bounds_are_within_themselves = record {
  itself = λ is_safe b h. within-itself is_safe b h;
  quotient = λ is_safe den b h limited. within-quotient is_safe den b h limited;
}

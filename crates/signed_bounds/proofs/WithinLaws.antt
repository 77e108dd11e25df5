-- Soundness of the comparison: if n * den is at most a bound, n is at most each bound that the comparison accepts.
use Rattle.std.proofs.Common.{◌≡◌, ℕ, suc, ◌+◌, ◌-◌, ◌*◌, ◌/◌, ◌<◌, ◌≤◌, ◌⊎◌, inl, inr, Bool, true, false, List, []}
use Rattle.std.proofs.Common.{◌∷◌, ◌++◌, Option, Some, None, refl, ap, ap₂, arith}
use Rattle.std.specs.Prelude.{ℤ, ◌==◌, nat_le, ◌&&◌, ◌||◌, if◌then◌else◌}
use Rattle.std.proofs.Math.Nat.{mul-le-mul_left}
use Rattle.std.proofs.lemmas.Nat.{le-div}
use Rattle.std.proofs.lemmas.Bool.{and_parts, or_cases, cases_lt, leb-true, eqb-true}
use Rattle.poly_terms.specs.model.Terms.{Term}
use Rattle.signed_bounds.specs.Bounds.{Signed, Quotient}
use Rattle.signed_bounds.specs.Bounds.{signed_val}
use Rattle.signed_bounds.specs.Safe.{IsSafe}
use Rattle.signed_bounds.specs.Products.{Product, factors_val, products_val, number, scaled, products_of, is_multipliable}
use Rattle.signed_bounds.specs.Covers.{covers}
use Rattle.signed_bounds.specs.Within.{numerator, once_less, is_covered_with_numerator, is_covered_by_quotient}
use Rattle.signed_bounds.specs.Limits.{quotient_limit}
use Rattle.signed_bounds.specs.Within.{is_covered_rounded, quotient_count, is_covered_by_some, is_covered, within}
use Rattle.signed_bounds.specs.Within.{WithinHolds}
use Rattle.signed_bounds.specs.Fits.{fits}
use Rattle.signed_bounds.proofs.Choices.{contradiction, none_is_no_value}
use Rattle.signed_bounds.proofs.ProductValues.{products_val-append, products_val-scaled, products_of-value}
use Rattle.signed_bounds.proofs.FitLaws.{fits-le}
use Rattle.signed_bounds.proofs.CoverLaws.{covers-le}

-- if n * den is at most den times b and den - 1, n is at most b
rounded : (den n b : ℕ) → 1 ≤ den → den * n ≤ (den - 1) + den * b → n ≤ b
rounded den n b positive h = go (cases_lt b n)
  where
    go : (b < n) ⊎ (n ≤ b) → n ≤ b
    go (inl above) = let k : den * suc b ≤ den * n = mul-le-mul_left den above in absurd (omega arith)
    go (inr below) = below

-- if n * den is at most a + den * b, n is at most a/den + b
divided : (den n a b : ℕ) → 1 ≤ den → den * n ≤ a + den * b → n ≤ a / den + b
divided den n a b positive h = go (cases_lt b n)
  where
    go : (b < n) ⊎ (n ≤ b) → n ≤ a / den + b
    go (inl above) =
        let whole : n ≡ b + (n - b) = omega arith in
        let fits : (n - b) * den ≤ a = omega (arith, ap (λ (v : ℕ). den * v) whole) in
        omega (arith, le-div (n - b) a den positive fits)
    go (inr below) = omega arith

-- a quotient of the same numbers by the same divisor, as the product of one factor
at_once : (c b : Signed) (d den : ℕ) → c ≡ b → d ≡ den → (x : List ℤ) → (signed_val c x / d) * 1 ≡ signed_val b x / den
at_once c b d den same divisor x =
    omega (arith, ap₂ (λ (s : Signed) (v : ℕ). signed_val s x / v) same divisor)

-- the numerator of a product that is a quotient by den: the product's value is at least the quotient
numerator-is : (den n : ℕ) (fs : List Signed) (b : Signed) → numerator den n fs ≡ Some b
    → (1 ≤ n) × ((x : List ℤ) → factors_val fs x ≡ signed_val b x / den)
numerator-is den n (Quotient c d ∷ []) b e = go (nat_le 1 n && (d == den)) refl e
  where
    go : (t : Bool) → (nat_le 1 n && (d == den)) ≡ t → (if t then Some c else None) ≡ Some b
        → (1 ≤ n) × ((x : List ℤ) → (signed_val c x / d) * 1 ≡ signed_val b x / den)
    go true t k =
        let both = and_parts (nat_le 1 n) (d == den) t in
        let divisor = eqb-true d den both.1 in
        let same : c ≡ b = cc in
        (leb-true 1 n both.0, λ x. at_once c b d den same divisor x)
    go false t k = none_is_no_value k
numerator-is den n _ b e = none_is_no_value e

module _ (is_safe : Term → Bool) (safe : IsSafe is_safe) where
  -- if a sum is covered with a numerator, n is at most the second sum
  covered_with_numerator-le : (den : ℕ) (ps before qs : List Product) (q : Product) → 1 ≤ den
      → is_covered_with_numerator is_safe den ps (numerator den q.times q.factors) (before ++ once_less q ∷ qs) ≡ true
      → (x : List ℤ) (n : ℕ) → den * n ≤ products_val ps x → n ≤ products_val (before ++ q ∷ qs) x
  covered_with_numerator-le den ps before qs q positive e x n h = go (numerator den q.times q.factors) refl e
    where
      go : (o : Option Signed) → numerator den q.times q.factors ≡ o
          → is_covered_with_numerator is_safe den ps o (before ++ once_less q ∷ qs) ≡ true
          → n ≤ products_val (before ++ q ∷ qs) x
      go None t k = contradiction k
      go (Some b) t k =
          let all = before ++ once_less q ∷ qs in
          let covered = (and_parts (is_multipliable 1 b) (covers is_safe ps (products_of b ++ scaled den all)) k).1 in
          let is = numerator-is den q.times q.factors b t in
          let most = covers-le is_safe safe ps (products_of b ++ scaled den all) covered x in
          let parts = products_val-append (products_of b) (scaled den all) x in
          let others = products_val-append before (once_less q ∷ qs) x in
          let whole = products_val-append before (q ∷ qs) x in
          let l : den * n ≤ signed_val b x + den * products_val all x =
          omega (arith, products_of-value b x, products_val-scaled den all x) in
          let low = divided den n (signed_val b x) (products_val all x) positive l in
          let times : q.times ≡ 1 + (q.times - 1) = omega (arith, is.0) in
          omega (arith, is.1 x, ap (λ (v : ℕ). v * factors_val q.factors x) times)

  -- if a sum is covered by a quotient, n is at most the second sum
  covered_by_quotient-le : (den : ℕ) (ps before qs : List Product) → 1 ≤ den
      → is_covered_by_quotient is_safe den ps before qs ≡ true
      → (x : List ℤ) (n : ℕ) → den * n ≤ products_val ps x → n ≤ products_val (before ++ qs) x
  covered_by_quotient-le den ps before [] positive e x n h = contradiction e
  covered_by_quotient-le den ps before (q ∷ qs) positive e x n h =
      go (or_cases
      (is_covered_with_numerator is_safe den ps (numerator den q.times q.factors) (before ++ once_less q ∷ qs))
      (is_covered_by_quotient is_safe den ps (before ++ q ∷ []) qs) e)
      (λ k. covered_by_quotient-le den ps (before ++ q ∷ []) qs positive k x n h)
    where
      go : (is_covered_with_numerator is_safe den ps (numerator den q.times q.factors) (before ++ once_less q ∷ qs) ≡ true)
          ⊎ (is_covered_by_quotient is_safe den ps (before ++ q ∷ []) qs ≡ true)
          → (is_covered_by_quotient is_safe den ps (before ++ q ∷ []) qs ≡ true
          → n ≤ products_val ((before ++ q ∷ []) ++ qs) x)
          → n ≤ products_val (before ++ q ∷ qs) x
      go (inl k) later = covered_with_numerator-le den ps before qs q positive k x n h
      go (inr k) later =
          omega (
            arith,
            later k,
            products_val-append (before ++ q ∷ []) qs x,
            products_val-append before (q ∷ []) x,
            products_val-append before (q ∷ qs) x,
          )

  -- if a bound is covered by another by a comparison of products, n is at most the other
  covered-le : (den : ℕ) (a b : Signed) → 1 ≤ den → is_covered is_safe den a b ≡ true → (x : List ℤ) (n : ℕ)
      → den * n ≤ signed_val a x → n ≤ signed_val b x
  covered-le den a b positive e x n h =
      let limited = is_multipliable 1 a && is_multipliable den b in
      let direct = is_covered_rounded is_safe den (products_of a) (products_of b) in
      let quotient = is_covered_by_some is_safe den (products_of a) (products_of b) in
      let both = and_parts limited (direct || quotient) e in
      go (or_cases direct quotient both.1)
    where
      go : (is_covered_rounded is_safe den (products_of a) (products_of b) ≡ true)
          ⊎ (is_covered_by_some is_safe den (products_of a) (products_of b) ≡ true) → n ≤ signed_val b x
      go (inl k) =
          let most = covers-le is_safe safe (products_of a) (number (den - 1) ∷ scaled den (products_of b)) k x in
          rounded den n (signed_val b x) positive
          (omega (
            arith,
            products_of-value a x,
            products_val-scaled den (products_of b) x,
            ap (λ (v : ℕ). den * v) (products_of-value b x),
          ))
      go (inr k) =
          let l : den * n ≤ products_val (products_of a) x = omega (arith, products_of-value a x) in
          let some = (and_parts (nat_le (quotient_count den (products_of b)) quotient_limit)
          (is_covered_by_quotient is_safe den (products_of a) [] (products_of b)) k).1 in
          omega (
            arith,
            covered_by_quotient-le den (products_of a) [] (products_of b) positive some x n l,
            products_of-value b x,
          )

  -- if a bound is within another, n is at most the other
  pub within-le : (den : ℕ) (a b : Signed) → 1 ≤ den → within is_safe den a b ≡ true → (x : List ℤ) (n : ℕ)
      → den * n ≤ signed_val a x → n ≤ signed_val b x
  within-le den a b positive e x n h =
      go (or_cases ((den == 1) && fits is_safe a b) (is_covered is_safe den a b) e)
    where
      go : (((den == 1) && fits is_safe a b) ≡ true) ⊎ (is_covered is_safe den a b ≡ true) → n ≤ signed_val b x
      go (inl k) =
          let both = and_parts (den == 1) (fits is_safe a b) k in
          let once : den ≡ 1 = eqb-true den 1 both.0 in
          let low = fits-le is_safe safe a b both.1 x in
          let times : den * n ≡ 1 * n = ap (λ (v : ℕ). v * n) once in
          omega (arith)
      go (inr k) = covered-le den a b positive k x n h

-- the comparison is sound
pub within_holds : WithinHolds
within_holds = record { each = λ is_safe safe den a b positive e x n h. within-le is_safe safe den a b positive e x n h }
